-- Lines of flushes, sweeps and served parts of small runs, computed by the definitions alone.
use Rattle.std.proofs.Common.{◌≡◌, [], ◌∷◌, refl, None}
use Rattle.lapi_base.specs.declared.address.Addr.TheVariants.{Plain}
use Rattle.lapi_base.specs.declared.statement.Statement.TheVariants.{Put, Get}
use Rattle.lapi_base.specs.declared.schedule.Act.TheVariants.{Step, Poll, Deliver}
use Rattle.lapi_laws.proofs.WorkedRuns.{Row, builtin, run, two_tasks}
use Rattle.lapi_flush.specs.Served.{delivers, served}
use Rattle.lapi_flush.specs.Flushed.{data_count, link_acts, flush}
use Rattle.lapi_flush.specs.Swept.{sweep_to, sweep}

-- task 0 puts 300 bytes, which are two packets
abbrev long_put : Row
long_put = two_tasks 1024 (Put 1 (Plain 512) 0 300 None None None ∷ []) [] (Step 0 ∷ [])

put-flush : flush long_put.script builtin (run long_put) 0 ≡ Poll 0 ∷ Deliver 0 1 0 ∷ Deliver 0 1 1 ∷ Deliver 1 0 1 ∷ []
unfolding run link_acts delivers
put-flush = refl

-- after the Poll, one served part of the two packets
abbrev polled_put : Row
polled_put = two_tasks 1024 (Put 1 (Plain 512) 0 300 None None None ∷ []) [] (Step 0 ∷ Poll 0 ∷ [])

put-served : served (run polled_put) 0 1 0 1 ≡ Deliver 0 1 0 ∷ Deliver 0 1 1 ∷ Deliver 1 0 1 ∷ []
unfolding run delivers
put-served = refl

put-data : data_count ((run polled_put).wire 0 1) ≡ 2
unfolding run data_count
put-data = refl

-- Task 0 gets from task 1, whose answer goes out when task 1 is flushed, after the acknowledgement on the same wire.
abbrev one_get : Row
one_get = two_tasks 64 (Get 1 (Plain 0) 16 8 None None ∷ []) [] (Step 0 ∷ [])

get-sweep : sweep one_get.script builtin (run one_get)
    ≡ Poll 0 ∷ Deliver 0 1 0 ∷ Deliver 1 0 0 ∷ Poll 1 ∷ Deliver 1 0 1 ∷ Deliver 0 1 1 ∷ []
unfolding run sweep_to link_acts delivers
get-sweep = refl
