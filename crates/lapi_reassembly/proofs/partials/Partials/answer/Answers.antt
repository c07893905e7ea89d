use Rattle.std.proofs.Common.{ℕ, Option, Some, None, IsSome, IfNone, refl}
use Rattle.lapi_reassembly.proofs.PutLaws.{not_there, answer_name, answer_others}
use Rattle.lapi_reassembly.proofs.partials.Partials.answer.Goals as goal

some_key : (key : Option ℕ) (P : Type 0) → IfNone key P → (P → ⊥) → IsSome key
some_key None P absent there = absurd (there absent)
some_key (Some k) P absent there = refl

pub unwrap-key-requires : goal.unwrap-key-requires
unwrap-key-requires c =
    some_key c.key_of.result _ c.key_of.ensures.absent (λ absent.
    not_there c.self.inside.names c.self.inside.unit c.self.inside.partials c.self.inside.partials c.args.self.now c.self.view_is c.self.invariant c.args.name refl absent c.requires)

pub returns-clause-name : goal.returns-clause-name
returns-clause-name c =
    let kept = rw c.unwrap-key.ensures at c.key_of.ensures.found in
    answer_name c.self.inside.names c.self.inside.unit c.self.inside.partials c.keep.new.partials c.args.self.now c.self.view_is c.self.invariant c.args.name c.keep.ensures.capacity c.unwrap-key.result kept c.args.out c.keep.ensures.updates

pub returns-clause-others : goal.returns-clause-others
returns-clause-others c =
    let kept = rw c.unwrap-key.ensures at c.key_of.ensures.found in
    answer_others c.self.inside.names c.self.inside.unit c.self.inside.partials c.keep.new.partials c.args.self.now c.self.view_is c.self.invariant c.args.name c.keep.ensures.capacity c.unwrap-key.result kept c.args.out c.keep.ensures.updates
