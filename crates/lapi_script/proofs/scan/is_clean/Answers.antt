use Rattle.std.proofs.Common.{sym, ◌∙◌}
use Rattle.lapi_script.proofs.Blocks.{clean_on, dirty}
use Rattle.lapi_script.proofs.scan.is_clean.Goals as goal

pub loop-rest-preserved : goal.loop-rest-preserved
loop-rest-preserved c =
    clean_on c.args.line.now c.loop-rest.rest.now c.split_at.result.0.now c.split_at.result.1.now c.split_at.ensures.front c.split_at.ensures.back
    (sym c.is_clean_block.ensures ∙ c.if-not-is_clean_block.false) c.loop-rest.invariant

pub returns-then-not-is_clean_block : goal.returns-then-not-is_clean_block
returns-then-not-is_clean_block c =
    dirty c.args.line.now c.loop-rest.rest.now c.split_at.result.0.now c.split_at.ensures.front (sym c.is_clean_block.ensures ∙ c.if-not-is_clean_block.true) c.loop-rest.invariant
