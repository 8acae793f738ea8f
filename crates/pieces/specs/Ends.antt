-- The positions that the pieces of a period put behind those pending, in order: submitted after each piece whose end is flagged (document 01, "Stream
-- transfer"; the ends of "The book of demand 3").
use Rattle.std.specs.Prelude.{ℕ, zero, suc, ◌+◌, ◌-◌, Bool, true, false, List, [], ◌∷◌, ◌++◌, ltb, Ok, Err}
use Rattle.stream.specs.declared.Stream.{Stream}
use Rattle.stream.specs.declared.Cyclic.{Cyclic}
use Rattle.plan.specs.declared.End.{End}
use Rattle.plan.specs.declared.End.TheVariants.{Inside, Plain, Flagged}
use Rattle.plan.specs.Plans.{Plan, plan_of}
use Rattle.pieces.specs.Pieces.{State, Out, piece_of}

abbrev pub ended_of : ℕ → End → List ℕ
ended_of position Inside = []
ended_of position Plain = []
ended_of position Flagged = position ∷ []

abbrev pub plan_ends : Stream → Plan → List ℕ
plan_ends s (Err stop) = []
plan_ends s (Ok m) = ended_of (s.submitted + m.n) m.end

unfoldable pub piece_ends : Cyclic → ℕ → State → List ℕ
piece_ends g count x = plan_ends x.stream (plan_of g x.stream x.memory (count - x.done))

abbrev pub onward_ends : Bool → Out → (State → List ℕ) → List ℕ
onward_ends true o rest = rest o.state
onward_ends false o rest = []

abbrev pub again_ends : Bool → List ℕ → Out → (State → List ℕ) → List ℕ
again_ends true ends o rest = ends ++ onward_ends o.ok o rest
again_ends false ends o rest = []

-- along the pieces, as `pieces_of` goes
unfoldable pub pieces_ends : ℕ → Cyclic → ℕ → State → List ℕ
pieces_ends zero g count x = []
pieces_ends (suc fuel) g count x = again_ends (ltb x.done count) (piece_ends g count x) (piece_of g count x) (pieces_ends fuel g count)
