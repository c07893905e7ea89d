use Rattle.lapi_picture.specs.Sheet.{column_text}
use Rattle.lapi_picture.proofs.Joins.{none_yet, number_added}
use Rattle.lapi_picture.proofs.sheet.add_columns.Goals as goal

pub loop-t-init : goal.loop-t-init
loop-t-init c = none_yet (column_text c.args.page) c.args.out.now.bytes.items

pub loop-t-preserved : goal.loop-t-preserved
loop-t-preserved c = number_added (column_text c.args.page) c.loop-t.t _ _ _ c.loop-t.invariant c.in_ok-add_column.ensures
