-- The text of a list of spans: the first, and each other one after a comma.
use Rattle.std.proofs.Common.{◌≡◌, List, [], ◌∷◌, ◌++◌, sym, ap}
use Rattle.std.proofs.lemmas.List.{append-nil}
use Rattle.std.specs.Prelude.{codes}
use Rattle.std.specs.List.{flat_map}
use Rattle.lapi_base.specs.declared.span.Span.{Span}
use Rattle.lapi_base.specs.Output.PacketText.{span_word, spans_word}

pub words_from_first : (first : Span) (others : List Span) → spans_word (first ∷ others) ≡ span_word first ++ flat_map (λ (span : Span). codes "," ++ span_word span) others
words_from_first first [] = sym (append-nil (span_word first))
words_from_first first (next ∷ others) = ap (λ t. span_word first ++ (codes "," ++ t)) (words_from_first next others)
