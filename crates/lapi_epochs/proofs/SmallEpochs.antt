-- A small script of two tasks, computed by the definitions alone: its epochs, and what its statements read and write.
use Rattle.std.proofs.Common.{◌≡◌, true, false, [], ◌∷◌, map, refl, None}
use Rattle.lapi_base.specs.declared.address.Addr.TheVariants.{Plain}
use Rattle.lapi_base.specs.declared.script.Script.{Script}
use Rattle.lapi_base.specs.declared.statement.Statement.TheVariants.{Store, Put, Get, Gfence}
use Rattle.lapi_base.specs.declared.message.Leg.TheVariants.{Go, Back}
use Rattle.lapi_base.specs.Record.Names.{message, Issued, Landed}
use Rattle.lapi_laws.proofs.WorkedRuns.{run, two_tasks}
use Rattle.lapi_epochs.specs.Epochs.{epoch}
use Rattle.lapi_epochs.specs.Stages.{covers, reads_from, writes_to, reads_at, is_written, write_deed}

-- Task 0 stores four bytes, puts them to task 1, and stores again in its next epoch. In that task 1 gets bytes of task 0.
abbrev script : Script
script =
    (two_tasks 64
    (Store 0 (1 ∷ 2 ∷ 3 ∷ 4 ∷ []) ∷ Put 1 (Plain 16) 0 4 None None None ∷ Gfence ∷ Store 8 (5 ∷ []) ∷ Gfence ∷ [])
    (Gfence ∷ Get 0 (Plain 2) 32 2 None None ∷ Gfence ∷ [])
    []).script

-- a global fence is of the epoch that it ends
small-epochs : map (epoch script 0) (0 ∷ 1 ∷ 2 ∷ 3 ∷ 4 ∷ 5 ∷ []) ≡ 0 ∷ 0 ∷ 0 ∷ 1 ∷ 1 ∷ 2 ∷ []
unfolding run epoch
small-epochs = refl

later-epochs : map (epoch script 1) (0 ∷ 1 ∷ 2 ∷ 3 ∷ []) ≡ 0 ∷ 1 ∷ 1 ∷ 2 ∷ []
unfolding run epoch
later-epochs = refl

-- the put writes bytes 16 to 19 of task 1, and no other
put-writes : map (is_written script 0 1 1) (15 ∷ 16 ∷ 19 ∷ 20 ∷ []) ≡ false ∷ true ∷ true ∷ false ∷ []
unfolding run covers
put-writes = refl

put-own : map (is_written script 0 1 0) (0 ∷ 16 ∷ []) ≡ false ∷ false ∷ []
unfolding run covers
put-own = refl

-- the get reads bytes 2 and 3 of task 0, and writes bytes 32 and 33 of its own task
get-reads : map (covers (reads_at script 1 1)) (1 ∷ 2 ∷ 3 ∷ 4 ∷ []) ≡ false ∷ true ∷ true ∷ false ∷ []
unfolding run covers
get-reads = refl

get-writes : map (is_written script 1 1 1) (31 ∷ 32 ∷ 33 ∷ 34 ∷ []) ≡ false ∷ true ∷ true ∷ false ∷ []
unfolding run covers
get-writes = refl

get-ends : reads_from script 1 1 ∷ writes_to script 1 1 ∷ [] ≡ 0 ∷ 1 ∷ []
unfolding run
get-ends = refl

-- a store writes its own task's bytes
store-writes : map (is_written script 0 3 0) (7 ∷ 8 ∷ 9 ∷ []) ≡ false ∷ true ∷ false ∷ []
unfolding run covers
store-writes = refl

-- the deeds by which they write
small-deeds : write_deed script 0 0 ∷ write_deed script 0 1 ∷ write_deed script 1 1 ∷ []
    ≡ Issued 0 0 ∷ Landed (message 0 1 Go) ∷ Landed (message 1 1 Back) ∷ []
unfolding run
small-deeds = refl
