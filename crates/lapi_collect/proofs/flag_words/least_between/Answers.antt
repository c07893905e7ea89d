use Rattle.std.proofs.Common.{refl, arith}
use Rattle.lapi_collect.proofs.Flags.{past_empty_word, least_in_word}
use Rattle.lapi_collect.proofs.flag_words.least_between.Goals as goal

pub returns-then-word-ne0 : goal.returns-then-word-ne0
returns-then-word-ne0 c =
    least_in_word c.args.words.now c.args.first c.args.end c.loop-i.i _ (omega arith) (omega arith) c.loop-i.invariant refl (omega (arith, c.if-word-ne0.true)) (omega (arith, c.type_inv.words c.loop-i.i))

pub loop-i-preserved : goal.loop-i-preserved
loop-i-preserved c = past_empty_word c.args.words.now c.args.first c.loop-i.i c.loop-i.invariant c.if-word-ne0.false
