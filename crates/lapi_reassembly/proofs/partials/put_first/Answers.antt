use Rattle.std.proofs.Common.{◌≡◌, length, get_or, Some, None, cond, refl, sym, ap, ◌∙◌, arith}
use Rattle.std.proofs.lemmas.List.{get_or_past}
use Rattle.lapi_reassembly.proofs.partials.put_first.Goals as goal

-- of a whole message nothing is kept under the key behind the last
pub returns-then-is_whole-clause-updates : goal.returns-then-is_whole-clause-updates
returns-then-is_whole-clause-updates c =
    let slots = c.args.partials.now.slots in
    let past : get_or slots (length slots) None ≡ None = get_or_past slots (length slots) None (omega arith) in
    let whole = sym c.is_whole.ensures ∙ c.if-is_whole.true in
    (length slots, past, record { changed = past ∙ sym (ap (λ b. cond b None (Some c.args.partial)) whole); others = λ other differs. refl })
