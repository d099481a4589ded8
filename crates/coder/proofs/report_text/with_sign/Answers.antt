-- `quantity::with_sign` meets its contract: by the sorts of the two.
use mathlib.Core.Path.{refl}
use Rattle.coder.proofs.ReportLaws.{size-code, size_below, size-nothing, rest-nothing, first_below, rest_below}
use Rattle.coder.proofs.report_text.with_sign.Goals as goal

pub returns-in-Nothing-size : goal.returns-in-Nothing-size
returns-in-Nothing-size c = λ first rest a b. rest-nothing c.args.field first rest (size-nothing rest refl b c.in-Nothing-size.is)

pub returns-in-Below-size : goal.returns-in-Below-size
returns-in-Below-size c = rw c.no_code.ensures (λ first rest a b. first_below c.args.field first rest (size_below first refl a c.in-Below.is) (size_below rest refl b c.in-Below-size.is).means)

pub returns-in-Code-size : goal.returns-in-Code-size
returns-in-Code-size c = rw c.no_code-in-Code-size.ensures (λ first rest a b. first_below c.args.field first rest (size_below first refl a c.in-Below.is) (size-code rest refl b c.in-Code-size.is))

pub returns-in-Nothing-size-2 : goal.returns-in-Nothing-size-2
returns-in-Nothing-size-2 c = λ first rest a b. rest-nothing c.args.field first rest (size-nothing rest refl b c.in-Nothing-size-2.is)

pub returns-in-Below-size-2 : goal.returns-in-Below-size-2
returns-in-Below-size-2 c = rw c.no_code-in-Below-size-2.ensures (λ first rest a b. rest_below c.args.field first rest (size-code first refl a c.in-Code.is) (size_below rest refl b c.in-Below-size-2.is))

pub returns-in-Code-size-2 : goal.returns-in-Code-size-2
returns-in-Code-size-2 c = λ first rest a b. c.with_bit.ensures first rest (size-code first refl a c.in-Code.is) (size-code rest refl b c.in-Code-size-2.is)
