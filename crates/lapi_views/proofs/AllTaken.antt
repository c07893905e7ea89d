-- What is written of a world that has taken all lines of an input is what is told of the input.
use Rattle.std.proofs.Common.{◌≡◌, ℕ, List, false, length, ap, ◌∙◌}
use Rattle.lapi_base.specs.declared.rule.Rules.{Rules}
use Rattle.lapi_base.specs.declared.input.Input.{Input}
use Rattle.lapi_base.specs.Laws.LinesTaken.{TakesAll}
use Rattle.lapi_base.specs.Record.Operations.{numbers_below}
use Rattle.lapi_base.specs.Record.Wires.{Run}
use Rattle.lapi_base.specs.Record.WorldView.{WorldView, view_record}
use Rattle.lapi_views.specs.Answered.{packets_text}
use Rattle.lapi_views.specs.Pcap.{pcap_bytes}

abbrev all_taken : Rules → Input → WorldView
all_taken rules x = record { script = x.script; rules = rules; schedule = x.schedule; taken = numbers_below (length x.schedule); spent = false }

abbrev packets_of : WorldView → List ℕ
packets_of w = pcap_bytes (view_record w) w.schedule w.taken

pub all_packets : (rules : Rules) (x : Input) (w : WorldView) → w ≡ all_taken rules x → TakesAll → packets_of w ≡ packets_text rules x
all_packets rules x w all whole = ap packets_of all ∙ ap (λ (r : Run). pcap_bytes r x.schedule (numbers_below (length x.schedule))) (whole x.script rules x.schedule)
