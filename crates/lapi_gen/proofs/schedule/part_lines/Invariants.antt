use Rattle.std.proofs.Common.{◌≡◌, ◌++◌, take}
use Rattle.std.specs.List.{flat_map}
use Rattle.lapi_gen.specs.Schedules.{link_lines}
use Rattle.lapi_gen.proofs.schedule.part_lines.Given as goal

abbrev pub invariant-loop-link : goal.invariant-loop-link
invariant-loop-link l = l.schedule ≡ l.fn.schedule ++ flat_map (λ link. link_lines l.batch link l.part) (take l.link-index l.links)
