-- `restore_step` is `restore_step`: refused by the state's number, refused by an opening, and the change.
use mathlib.Core.Path.{sym}
use Rattle.parse.proofs.Theorems.{taken-long}
use Rattle.restore.proofs.Outcomes.{refused, taken, taken-fits, state-passed}
use mathlib.Core.Path.{refl}
use Rattle.refusal.proofs.Laws as laws
use Rattle.restore.specs.Restores.{number_of}
use Rattle.restore.proofs.restore_step.Goals as goal

pub returns-in-Err : goal.returns-in-Err
returns-in-Err c =
    let a = c.args in
    let n = c.number.result in
    refused a.strict a.state.now a.hda a.host a.lists.now
    (laws.refused c.check.result (number_of a.strict a.state.now a.hda a.host) c.check.ensures c.in-Err.refusal c.in-Err.is n c.number.ensures)
    (laws.number-nonzero c.in-Err.refusal n c.number.ensures) c.answer.ensures

pub restore_lists-requires : goal.restore_lists-requires
restore_lists-requires c =
    let a = c.args in
    let none = laws.refused-none c.check.result (number_of a.strict a.state.now a.hda a.host) c.check.ensures c.in_default.field-0 c.in_default.is in
    (taken-fits a.strict a.state.now a.hda.microphone a.hda.config (state-passed a.strict a.state.now a.hda a.host (sym none)), c.requires)

pub restored_device-restored-requires : goal.restored_device-restored-requires
restored_device-restored-requires c =
    let a = c.args in
    let none = laws.refused-none c.check.result (number_of a.strict a.state.now a.hda a.host) c.check.ensures c.in_default.field-0 c.in_default.is in
    taken-fits a.strict a.state.now a.hda.microphone a.hda.config (state-passed a.strict a.state.now a.hda a.host (sym none))

pub restored_host-requires : goal.restored_host-requires
restored_host-requires c =
    let a = c.args in
    let none = laws.refused-none c.check.result (number_of a.strict a.state.now a.hda a.host) c.check.ensures c.in_default.field-0 c.in_default.is in
    taken-long a.strict a.state.now a.hda.microphone a.hda.config (state-passed a.strict a.state.now a.hda a.host (sym none))

pub returns : goal.returns
returns c =
    let a = c.args in
    let none = laws.refused-none c.check.result (number_of a.strict a.state.now a.hda a.host) c.check.ensures c.in_default.field-0 c.in_default.is in
    taken a.strict a.state.now a.hda a.host a.lists.now none
    refl c.finish.ensures c.restored_device-restored.ensures c.restored_host.ensures c.restore_lists.ensures
