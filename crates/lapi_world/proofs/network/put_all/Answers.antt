use Rattle.std.proofs.Common.{rules, ◌<◌, ◌++◌, ◌∷◌, [], List, length, set, take, sym, subst, arith}
use Rattle.std.proofs.lemmas.Iterator.Adapters.{YieldsList-from_vec}
use Rattle.std.proofs.lemmas.Iterator.Consumers.{YieldsList-turn}
use Rattle.std.proofs.lemmas.Nat.{mul-add-lt}
use Rattle.lapi_base.specs.declared.wire.WireEntry.{WireEntry}
use Rattle.lapi_base.proofs.ListLaws.{all-at, found-at, taken-more}
use Rattle.lapi_world.specs.Grows.{ArePut}
use Rattle.lapi_world.proofs.Putting.{one-put}
use Rattle.lapi_world.proofs.network.put_all.Goals as goal

pub loop-entry-preserved : goal.loop-entry-preserved
loop-entry-preserved c =
    let entry = c.in-Some.entry in
    let wire = c.index_mut-wire.result.now in
    let turn = YieldsList-turn (YieldsList-from_vec c.args.entries (search rules) (search rules)) c.loop-entry.yielded c.loop-entry.entry-iterator c.loop-entry.yielded_by c.next.result c.next.new.self entry c.in-Some.is c.next.ensures.steps in
    let end = all-at (λ (e : WireEntry). e.to < c.args.tasks) c.args.entries (length c.loop-entry.yielded) entry c.requires.ends turn.0 turn.1 in
    let room = mul-add-lt c.args.t c.args.tasks entry.to c.args.tasks c.requires.known.0 end in
    let within : c.place.result < length c.loop-entry.wires.items = omega (arith, room, c.place.ensures, c.loop-entry.invariant.count, c.requires.wires) in
    let found = found-at c.loop-entry.wires.items c.place.result wire within c.index_mut-wire.ensures.value in
    let put = one-put c.args.tasks c.args.t (take (length c.loop-entry.yielded) c.args.entries) entry c.args.wires.now.items c.loop-entry.wires.items c.place.result wire c.loop-entry.invariant.put c.place.ensures found in
    record {
      can_next = tt;
      is_finite = tt;
      count = search rules;
      put =
          subst (λ (w : List (List _)). ArePut c.args.tasks c.args.t (take (length (c.loop-entry.yielded ++ entry ∷ [])) c.args.entries) c.args.wires.now.items (set c.loop-entry.wires.items c.place.result w)) (sym c.in_ok-put.ensures)
          (subst (λ (es : List WireEntry). ArePut c.args.tasks c.args.t es c.args.wires.now.items (set c.loop-entry.wires.items c.place.result (wire ++ entry.bytes ∷ []))) (sym (taken-more c.args.entries c.loop-entry.yielded entry turn.0 turn.1)) put);
    }
