use Rattle.std.proofs.Common.{◌≡◌, ◌++◌, sym, ap, ◌∙◌, append_assoc}
use Rattle.std.specs.List.{flat_map}
use Rattle.lapi_base.specs.Input.ActRows.{number_text, injected_text}
use Rattle.lapi_base.specs.Input.Rows.{act_row, row_line}
use Rattle.lapi_base.proofs.ActRows.{row_spelled}
use Rattle.lapi_report.proofs.act.add_act.Goals as goal

pub returns-clause-written : goal.returns-clause-written
returns-clause-written g c =
    let row = c.row-row.result in
    let old = c.args.line.now in
    let numbers = flat_map number_text row.numbers.items in
    let injected = injected_text row.injected in
    let word : row_line (act_row c.args.act.now) ≡ row.word.now ++ (numbers ++ injected) = sym (ap row_line c.row-row.ensures.row) ∙ row_spelled row in
    let begun : c.add_numbers.new.line ≡ (old ++ row.word.now) ++ numbers = rw c.as_slice.ensures.value at c.add_numbers.ensures.text ∙ ap (λ l. l ++ numbers) c.text.ensures in
    let whole : old ++ row_line (act_row c.args.act.now) ≡ c.add_numbers.new.line ++ injected =
    ap (λ t. old ++ t) word ∙ sym (append_assoc old row.word.now (numbers ++ injected)) ∙ sym (append_assoc (old ++ row.word.now) numbers injected) ∙ ap (λ l. l ++ injected) (sym begun) in
    rw whole c.add_injected.ensures.written
