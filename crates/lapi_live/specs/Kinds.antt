-- Which lines of a schedule begin and end jobs.
use Rattle.std.specs.Prelude.{List, map}
use Rattle.lapi_base.specs.declared.schedule.Act.{Act}
use Rattle.lapi_base.specs.declared.schedule.Act.TheVariants.{Step, Poll, Tick, Deliver, Cut, Inject}
use Rattle.lapi_base.specs.declared.schedule.Line.{Line}
use Rattle.lapi_live.specs.declared.kinds.Kind.{Kind}
use Rattle.lapi_live.specs.declared.kinds.Kind.TheVariants as kinds

abbrev pub kind_of : Act → Kind
kind_of (Act.Begin t w) = kinds.Begin t w
kind_of (Act.End t w) = kinds.End t w
kind_of (Step t) = kinds.Plain
kind_of (Poll t) = kinds.Plain
kind_of (Tick t) = kinds.Plain
kind_of (Deliver a b k) = kinds.Plain
kind_of (Cut a b k n) = kinds.Plain
kind_of (Inject a b bytes) = kinds.Plain

abbrev pub kinds_of : List Line → List Kind
kinds_of schedule = map (λ (line : Line). kind_of line.act) schedule
