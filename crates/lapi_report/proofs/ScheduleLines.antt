-- A schedule line begins with its lane.
use Rattle.std.proofs.Common.{◌≡◌, ℕ, List, ◌++◌, sym, ap, ◌∙◌, append_assoc}
use Rattle.std.specs.Prelude.{codes}
use Rattle.std.specs.Fmt.{decimal}
use Rattle.lapi_base.specs.declared.schedule.Line.{Line}
use Rattle.lapi_base.specs.declared.schedule.Act.{Act}
use Rattle.lapi_base.specs.declared.schedule.Act.TheVariants.{Step, Poll, Tick, Deliver, Cut, Inject}
use Rattle.lapi_base.specs.Input.Rows.{act_row, line_row, row_line}

act_after : (line : Line) (act : Act) → row_line (line_row (record line { act = act })) ≡ (decimal line.lane ++ codes " ") ++ row_line (act_row act)
act_after line (Step t) = sym (append_assoc (decimal line.lane) (codes " ") (row_line (act_row (Step t))))
act_after line (Poll t) = sym (append_assoc (decimal line.lane) (codes " ") (row_line (act_row (Poll t))))
act_after line (Tick t) = sym (append_assoc (decimal line.lane) (codes " ") (row_line (act_row (Tick t))))
act_after line (Deliver a b k) = sym (append_assoc (decimal line.lane) (codes " ") (row_line (act_row (Deliver a b k))))
act_after line (Cut a b k n) = sym (append_assoc (decimal line.lane) (codes " ") (row_line (act_row (Cut a b k n))))
act_after line (Inject a b bytes) = sym (append_assoc (decimal line.lane) (codes " ") (row_line (act_row (Inject a b bytes))))
act_after line (Act.Begin t w) = sym (append_assoc (decimal line.lane) (codes " ") (row_line (act_row (Act.Begin t w))))
act_after line (Act.End t w) = sym (append_assoc (decimal line.lane) (codes " ") (row_line (act_row (Act.End t w))))

pub lane_first : (line : Line) → row_line (line_row line) ≡ (decimal line.lane ++ codes " ") ++ row_line (act_row line.act)
lane_first line = act_after line line.act

-- and so does one that was taken, behind its word
pub took_first : (line : Line) (begun : List ℕ) → begun ≡ codes "took " ++ decimal line.lane ++ codes " " → begun ++ row_line (act_row line.act) ≡ codes "took " ++ row_line (line_row line)
took_first line begun e = ap (λ b. b ++ row_line (act_row line.act)) e ∙ sym (ap (λ r. codes "took " ++ r) (lane_first line))
