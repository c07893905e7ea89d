use Rattle.std.proofs.Common.{◌≡◌, [], ◌∷◌, ◌++◌, sym, ap, ◌∙◌, append_assoc}
use Rattle.std.specs.List.{flat_map}
use Rattle.lapi_base.specs.Input.ActRows.{number_text, injected_text}
use Rattle.lapi_base.specs.Input.Rows.{act_row, row_line}
use Rattle.lapi_base.proofs.ActRows.{row_spelled}
use Rattle.lapi_script.proofs.acts.write.Goals as goal

pub returns : goal.returns
returns c =
    let row = c.row-row.result in
    let old = c.args.out.now.items in
    let word = row.word.now in
    let numbers = flat_map number_text row.numbers.items in
    let injected = injected_text row.injected in
    let spelled : row_line (act_row c.args.act.now) ≡ word ++ (numbers ++ injected) = sym (ap row_line c.row-row.ensures.row) ∙ row_spelled row in
    let space : c.push.new.self.items ≡ old ++ 32 ∷ [] = c.in_ok-push.ensures.items in
    let begun : c.put.new.out.items ≡ (old ++ 32 ∷ []) ++ word = rw c.as_bytes.ensures.value at c.in_ok-put.ensures ∙ ap (λ o. o ++ word) space in
    let listed : c.numbers.new.out.items ≡ ((old ++ 32 ∷ []) ++ word) ++ numbers = rw c.as_slice.ensures.value at c.in_ok-numbers.ensures ∙ ap (λ o. o ++ numbers) begun in
    let whole : old ++ 32 ∷ row_line (act_row c.args.act.now) ≡ c.numbers.new.out.items ++ injected =
    ap (λ t. old ++ 32 ∷ t) spelled
    ∙ sym (append_assoc old (32 ∷ []) (word ++ (numbers ++ injected)))
    ∙ sym (append_assoc (old ++ 32 ∷ []) word (numbers ++ injected))
    ∙ sym (append_assoc ((old ++ 32 ∷ []) ++ word) numbers injected)
    ∙ ap (λ o. o ++ injected) (sym listed) in
    rw whole c.injected.ensures
