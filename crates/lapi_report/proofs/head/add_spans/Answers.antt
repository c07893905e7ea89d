use Rattle.std.proofs.Common.{◌≡◌, ◌∷◌, sym, ◌∙◌, append_assoc}
use Rattle.lapi_report.proofs.SpanWords.{words_from_first}
use Rattle.lapi_report.proofs.head.add_spans.Goals as goal

pub returns-in-Some-clause-text : goal.returns-in-Some-clause-text
returns-in-Some-clause-text c =
    let whole : c.args.spans.now ≡ c.in-Some.first.now ∷ c.in-Some.others.now = sym c.as_slice.ensures.items ∙ c.in-Some.ensures.cases.0 in
    rw (c.add_others.ensures.text, c.add_span.ensures.text, c.text.ensures, whole, words_from_first c.in-Some.first.now c.in-Some.others.now) (simp append_assoc)
