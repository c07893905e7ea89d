use Rattle.std.proofs.Common.{◌≡◌, ◌+◌, ◌-◌, take, drop, ap, arith}
use Rattle.lapi_gen.specs.declared.form.TheConstants.{STORED}
use Rattle.lapi_gen.proofs.draws.part.Goals as goal

pub returns : goal.returns
returns c = ap (λ n. take n (drop c.args.at c.args.bytes.now)) (let e : c.args.at + STORED - c.args.at ≡ STORED = omega arith in e)
