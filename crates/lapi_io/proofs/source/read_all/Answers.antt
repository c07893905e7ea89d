use Rattle.std.proofs.Common.{◌++◌, take, Result, Ok, Err, OnErr, arith}
use Rattle.std.proofs.KnownBytes.{Consumes-trans}
use Rattle.std.proofs.lemmas.Grind.{common_steps}
use Rattle.lapi_io.proofs.source.read_all.Goals as goal

on_any_err : {T E P : Type 0} (r : Result T E) → P → OnErr r P
on_any_err (Ok v) p = tt
on_any_err (Err e) p = p

-- the bytes for which there was no memory are taken as well
pub returns-in_err-extend_from_slice-in-Ok-clause-err :
    goal.returns-in_err-extend_from_slice-in-Ok-clause-err
returns-in_err-extend_from_slice-in-Ok-clause-err g c =
    on_any_err c.from_residual.result (
      c.loop-buf.all.items ++ take c.in-Ok.n c.read.new.buf,
      grind (arith, common_steps, c.read.auto.buf, c.in-Ok.ensures.bound),
      Consumes-trans _ _ _ _ _ c.loop-buf.invariant.taken c.in-Ok.ensures.bytes.0,
    )
