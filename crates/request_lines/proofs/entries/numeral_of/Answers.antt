-- A dash is no number.
use Rattle.request_lines.proofs.EntryLaws.{dash-nothing}
use Rattle.request_lines.proofs.entries.numeral_of.Goals as goal

pub returns-in-Dash : goal.returns-in-Dash
returns-in-Dash c = λ f h. rw (rw c.in-Dash.is at h, dash-nothing)
