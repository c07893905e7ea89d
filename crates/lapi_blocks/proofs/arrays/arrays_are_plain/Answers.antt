use Rattle.lapi_blocks.specs.Arrays.{BlocksArePlain, GotArePlain, GotBytesArePlain}
use Rattle.lapi_blocks.proofs.PlainArrays.{got-bytes-plain, blocks-plain, got-plain, of-plan_runs}
use Rattle.lapi_blocks.proofs.arrays.arrays_are_plain.Goals as goal

pub returns-clause-blocks : goal.returns-clause-blocks
returns-clause-blocks c = blocks-plain

pub returns-clause-got : goal.returns-clause-got
returns-clause-got c = got-plain

pub returns-clause-bytes : goal.returns-clause-bytes
returns-clause-bytes c = got-bytes-plain

pub returns-clause-blocks_of_runs : goal.returns-clause-blocks_of_runs
returns-clause-blocks_of_runs c = of-plan_runs BlocksArePlain blocks-plain

pub returns-clause-got_of_runs : goal.returns-clause-got_of_runs
returns-clause-got_of_runs c = of-plan_runs GotArePlain got-plain

pub returns-clause-bytes_of_runs : goal.returns-clause-bytes_of_runs
returns-clause-bytes_of_runs c = of-plan_runs GotBytesArePlain got-bytes-plain
