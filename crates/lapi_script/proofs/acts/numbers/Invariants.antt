use Rattle.std.proofs.Common.{◌≡◌, ◌++◌, take}
use Rattle.std.specs.List.{flat_map}
use Rattle.lapi_base.specs.Input.ActRows.{number_text}
use Rattle.lapi_script.proofs.acts.numbers.Given as goal

abbrev pub invariant-loop-each : goal.invariant-loop-each
invariant-loop-each l = l.out.items ≡ l.fn.out.items ++ flat_map number_text (take l.each-index l.numbers)
