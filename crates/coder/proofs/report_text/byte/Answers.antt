-- Each answer of the reporter is what its field tells.
use borrow.Author.Rules.{rules}
use Rattle.coder.proofs.ReportLaws.{byte-plain, byte-reported, number-reported}
use Rattle.coder.proofs.report_text.byte.Goals as goal

pub returns : goal.returns
returns c = number-reported c.args.text.now (byte-plain c.args.field) (λ n a m s e. byte-reported c.args.text.now m a e c.args.field (search rules)) c.number.ensures
