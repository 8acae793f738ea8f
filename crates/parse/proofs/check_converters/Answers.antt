-- `check_converters` is `converter_number`: node 2, then node 4.
use borrow.Author.Rules.{rules}
use Rattle.parse.proofs.Choices.{refused, passed, decoded}
use Rattle.parse.proofs.check_converters.Goals as goal

pub returns-in_err-check_format_word : goal.returns-in_err-check_format_word
returns-in_err-check_format_word c =
    refused (decoded c.check_format_word.ensures c.get.ensures) c.in_err-check_format_word.was (search rules) _

pub returns : goal.returns
returns c =
    passed (decoded c.check_format_word.ensures c.get.ensures) c.in_ok-check_format_word.was
    (decoded c.check_format_word-2.ensures c.get-2.ensures)
