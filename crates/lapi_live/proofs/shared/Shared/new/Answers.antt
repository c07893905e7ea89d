use Rattle.std.proofs.Common.{sym, subst}
use Rattle.lapi_live.specs.Histories.{IsShareable}
use Rattle.lapi_live.specs.Rooms.{plan_of_world, IsLined}
use Rattle.lapi_live.proofs.shared.Shared.new.Goals as goal

pub returns-clause-pass : goal.returns-clause-pass
returns-clause-pass g c =
    let w = c.args.world in
    let e = c.in_ok-turn.ensures in
    let shareable : IsShareable (plan_of_world w) = record { script_valid = c.schedule.ensures.valid.0; valid = c.schedule.ensures.valid.1; apart = c.requires.apart } in
    record {
      shareable = subst IsShareable (sym e.fixed) shareable;
      seat = e.seat;
      lined = subst (IsLined _) (sym e.seen) tt;
    }
