use Rattle.std.proofs.Common.{◌≡◌, ℕ, List, refl, ap, ◌∙◌}
use Rattle.lapi_reassembly.specs.Partial.{Gathered, with_fragment}
use Rattle.lapi_reassembly.proofs.PutLaws.{more_fragment, more_payload, more_answer, more_whole, more_holds, more_name, more_others, first_room, first_answer, first_holds, first_name, first_others}
use Rattle.lapi_reassembly.proofs.partials.Partials.put.Goals as goal

pub put_more-requires-clause-fragment : goal.put_more-requires-clause-fragment
put_more-requires-clause-fragment c =
    more_fragment c.self.inside.names c.self.inside.unit c.self.inside.partials c.self.inside.partials c.args.self.now c.self.view_is c.self.invariant c.args.name refl c.in-Some.key c.in-Some.ensures.found c.args.head.now c.args.length c.args.fragment c.requires.message c.requires.fragment.1

pub put_more-requires-clause-payload : goal.put_more-requires-clause-payload
put_more-requires-clause-payload c =
    more_payload c.self.inside.names c.self.inside.unit c.self.inside.partials c.self.inside.partials c.args.self.now c.self.view_is c.self.invariant c.args.name refl c.in-Some.key c.in-Some.ensures.found c.args.head.now c.args.length c.args.fragment c.args.payload.now c.requires.message c.requires.payload

pub invariant_of-self : goal.invariant_of-self
invariant_of-self c =
    more_holds c.self.inside.names c.self.inside.unit c.self.inside.partials c.put_more.new.partials c.args.self.now c.self.view_is c.self.invariant c.args.name c.put_more.ensures.capacity c.in-Some.key c.in-Some.ensures.found c.args.head.now c.args.length c.args.fragment c.args.payload.now c.put_more.ensures.updates

pub returns-in-Some-clause-answer : goal.returns-in-Some-clause-answer
returns-in-Some-clause-answer c =
    more_answer c.self.inside.names c.self.inside.unit c.self.inside.partials c.put_more.new.partials c.args.self.now c.self.view_is c.self.invariant c.args.name c.put_more.ensures.capacity c.in-Some.key c.in-Some.ensures.found c.args.head.now c.args.length c.args.fragment c.args.payload.now c.put_more.result c.put_more.ensures.answer

pub returns-in-Some-clause-whole : goal.returns-in-Some-clause-whole
returns-in-Some-clause-whole c =
    more_whole c.self.inside.names c.self.inside.unit c.self.inside.partials c.self.inside.partials c.args.self.now c.self.view_is c.self.invariant c.args.name refl c.in-Some.key c.in-Some.ensures.found c.args.head.now c.args.length c.put_more.result c.requires.message c.put_more.ensures.whole

pub returns-in-Some-clause-name : goal.returns-in-Some-clause-name
returns-in-Some-clause-name c =
    more_name c.self.inside.names c.self.inside.unit c.self.inside.partials c.put_more.new.partials c.args.self.now c.self.view_is c.self.invariant c.args.name c.put_more.ensures.capacity c.in-Some.key c.in-Some.ensures.found c.args.head.now c.args.length c.args.fragment c.args.payload.now c.put_more.ensures.updates

pub returns-in-Some-clause-others : goal.returns-in-Some-clause-others
returns-in-Some-clause-others c =
    more_others c.self.inside.names c.self.inside.unit c.self.inside.partials c.put_more.new.partials c.args.self.now c.self.view_is c.self.invariant c.args.name c.put_more.ensures.capacity c.in-Some.key c.in-Some.ensures.found c.args.head.now c.args.length c.args.fragment c.args.payload.now c.put_more.ensures.updates

-- the message that is made, with its fragment
made : (j : ℕ) (payload : List ℕ) (p old now : Gathered) → now ≡ with_fragment old j payload → old ≡ p → now ≡ with_fragment p j payload
made j payload p old now comes is = comes ∙ ap (λ x. with_fragment x j payload) is

pub put_first-requires : goal.put_first-requires
put_first-requires c =
    first_room c.self.inside.names c.self.inside.unit c.self.inside.partials c.self.inside.partials c.args.self.now c.self.view_is c.self.invariant c.args.name refl c.in-None.ensures.absent c.requires.room

pub invariant_of-self-in-None : goal.invariant_of-self-in-None
invariant_of-self-in-None c =
    first_holds c.self.inside.names c.self.inside.unit c.self.inside.partials c.put_first.new.partials c.args.self.now c.self.view_is c.self.invariant c.args.name c.put_first.ensures.capacity c.in-None.ensures.absent c.args.head.now c.args.length c.args.fragment c.args.payload.now c.take.new.self (made c.args.fragment c.args.payload.now _ _ _ c.take.ensures c.in_ok-partial-in-None.ensures) c.put_first.ensures.updates

pub returns-in_ok-partial-in-None-clause-answer : goal.returns-in_ok-partial-in-None-clause-answer
returns-in_ok-partial-in-None-clause-answer c =
    first_answer c.self.inside.names c.self.inside.unit c.self.inside.partials c.put_first.new.partials c.args.self.now c.self.view_is c.self.invariant c.args.name c.put_first.ensures.capacity c.in-None.ensures.absent c.args.head.now c.args.length c.args.fragment c.args.payload.now c.take.new.self (made c.args.fragment c.args.payload.now _ _ _ c.take.ensures c.in_ok-partial-in-None.ensures) c.put_first.result c.put_first.ensures.answer

pub returns-in_ok-partial-in-None-clause-name : goal.returns-in_ok-partial-in-None-clause-name
returns-in_ok-partial-in-None-clause-name c =
    first_name c.self.inside.names c.self.inside.unit c.self.inside.partials c.put_first.new.partials c.args.self.now c.self.view_is c.self.invariant c.args.name c.put_first.ensures.capacity c.in-None.ensures.absent c.args.head.now c.args.length c.args.fragment c.args.payload.now c.take.new.self (made c.args.fragment c.args.payload.now _ _ _ c.take.ensures c.in_ok-partial-in-None.ensures) c.put_first.ensures.updates

pub returns-in_ok-partial-in-None-clause-others : goal.returns-in_ok-partial-in-None-clause-others
returns-in_ok-partial-in-None-clause-others c =
    first_others c.self.inside.names c.self.inside.unit c.self.inside.partials c.put_first.new.partials c.args.self.now c.self.view_is c.self.invariant c.args.name c.put_first.ensures.capacity c.in-None.ensures.absent c.args.head.now c.args.length c.args.fragment c.args.payload.now c.take.new.self (made c.args.fragment c.args.payload.now _ _ _ c.take.ensures c.in_ok-partial-in-None.ensures) c.put_first.ensures.updates
