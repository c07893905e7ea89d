use Rattle.std.proofs.Common.{ltb, arith, rules}
use Rattle.std.proofs.lemmas.List.Sorted.{IsPartitionPoint-from_clause, IsPartitionedBy-ltb}
use Rattle.lapi_audit.proofs.RoundLaws.{parted-count}
use Rattle.lapi_audit.proofs.rounds.count_below.Goals as goal

pub returns : goal.returns
returns c =
    let xs = c.args.numbers.now in
    let i = c.args.i in
    let parted = IsPartitionedBy-ltb (λ j. j) xs i c.requires in
    let point = IsPartitionPoint-from_clause (λ j. ltb j i) xs c.partition_point.result c.partition_point.ensures.partitioned parted (λ a r q k. search rules) in
    parted-count (λ j. ltb j i) xs c.partition_point.result (omega arith) (λ j d l. point.0 j d (omega arith) l) (λ j d g l. point.1 j d g l)
