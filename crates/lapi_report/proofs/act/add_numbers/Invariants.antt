use Rattle.std.proofs.Common.{◌≡◌, ◌≤◌, ◌+◌, ◌*◌, ◌++◌, length, take}
use Rattle.std.specs.List.{flat_map}
use Rattle.lapi_base.specs.Input.ActRows.{number_text}
use Rattle.lapi_report.proofs.act.add_numbers.Given as goal

abbrev pub invariant-loop-number : goal.invariant-loop-number
invariant-loop-number l = record {
  text : l.line ≡ l.fn.line ++ flat_map number_text (take l.number-index l.numbers);
  room : length l.line ≤ length l.fn.line + 21 * l.number-index;
}
