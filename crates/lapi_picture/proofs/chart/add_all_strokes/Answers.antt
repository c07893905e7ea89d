use Rattle.lapi_picture.specs.Chart.{row_strokes}
use Rattle.lapi_picture.proofs.EachRow.{row_added, rows_done}
use Rattle.lapi_picture.proofs.chart.add_all_strokes.Goals as goal

pub loop-j-preserved : goal.loop-j-preserved
loop-j-preserved c = row_added (row_strokes c.args.page c.args.rows.now) c.loop-j.j c.args.rows.now _ _ _ _ c.loop-j-test.true c.loop-j.invariant c.in_ok-add_strokes.ensures

pub returns : goal.returns
returns c = rows_done (row_strokes c.args.page c.args.rows.now) c.loop-j.j c.args.rows.now _ _ c.loop-j-test.false c.loop-j.invariant
