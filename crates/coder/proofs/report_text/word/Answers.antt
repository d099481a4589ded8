-- Each answer of the reporter is what its field tells.
use borrow.Author.Rules.{rules}
use Rattle.coder.proofs.ReportLaws.{word-plain, word-reported, number-reported}
use Rattle.coder.proofs.report_text.word.Goals as goal

pub returns : goal.returns
returns c = number-reported c.args.text.now (word-plain c.args.field) (λ n a m s e. word-reported c.args.text.now m a e c.args.field (search rules)) c.number.ensures
