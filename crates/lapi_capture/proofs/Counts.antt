-- How many fragments there are, and whether all of them came.
use Rattle.std.proofs.Common.{◌≡◌, ℕ, ◌<◌, ◌≤◌, max, sym, ◌∙◌, ⊎_elim, arith}
use Rattle.std.specs.Int.{div_ceil}
use Rattle.std.proofs.Math.Dec.{leb}
use Rattle.std.proofs.lemmas.Bool.{cases_lt, le-leb, lt-leb}
use Rattle.lapi_base.specs.Packet.Layout.{Layout, First, Second, unit}
use Rattle.lapi_base.specs.Record.Below.{every_below, has_bit}
use Rattle.lapi_base.specs.Record.Fragments.{fragments_in}
use Rattle.lapi_base.proofs.BelowLaws.{every-not, every_below-from}
use Rattle.lapi_base.proofs.BitLaws.{IsRun}

pub ceiling : (layout : Layout) (len : ℕ) → max (div_ceil len (unit layout)) 1 ≡ fragments_in (unit layout) len
ceiling First len = omega arith
ceiling Second len = omega arith

pub every_by_run : (n word t : ℕ) → IsRun word t → leb n t ≡ every_below n (has_bit word)
every_by_run n word t run =
    ⊎_elim
    (λ (lt : t < n). lt-leb n t lt ∙ every-not n (has_bit word) t lt run.clear)
    (λ (ge : n ≤ t). le-leb n t ge ∙ sym (every_below-from n (has_bit word) (λ k l. run.set k (omega (arith, l, ge)))))
    (cases_lt t n)
