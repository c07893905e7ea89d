use Rattle.std.proofs.Common.{◌+◌, ◌*◌, ◌/◌, ◌%◌}
use Rattle.lapi_array.proofs.MemoriesLeft.{has_bytes, task_there, part_fits, part_is}
use Rattle.lapi_array.proofs.writing.row_part.Goals as goal

pub bytes_at-requires : goal.bytes_at-requires
bytes_at-requires c =
    let plan = c.args.plan.now in
    let p = c.requires.plan in
    has_bytes plan p.0 c.args.memories.now c.requires.memories (c.args.row / plan.height * plan.q + c.args.col) (4 * (c.args.row % plan.height * plan.width) + 4 * plan.width)
    (task_there plan p.0 c.args.memories.now c.requires.memories c.args.row c.args.col p.1 p.2)
    (part_fits plan p.0 c.args.memories.now c.requires.memories c.args.row c.args.col p.1 p.2)

pub returns : goal.returns
returns c =
    let p = c.requires.plan in
    part_is c.args.plan.now p.0 c.args.memories.now c.requires.memories c.args.row c.args.col p.1 p.2 c.bytes_at.result.now c.bytes_at.ensures
