-- Spans that are read one after another against others of the same lengths.
use Rattle.std.proofs.Common.{◌≡◌, ℕ, ◌+◌, ◌<◌, List, length, get_or, drop, ◌∙◌, Result}
use Rattle.std.proofs.lemmas.List.{at_drop_more}
use Rattle.lapi_base.specs.declared.reply.Reason.{Reason}
use Rattle.lapi_base.specs.declared.span.Span.{Span}
use Rattle.lapi_base.specs.Packet.Format.{reading}
use Rattle.lapi_base.specs.Packet.Fields.{span_form, matching_span, behind}

pub span_at : (others : List Span) (i following : ℕ) (d : Span) (bytes : List ℕ) (r : Result (Span × List ℕ) (ℕ × Reason)) → i < length others
    → reading (span_form (get_or others i d).len (get_or others i d).len) bytes ≡ r → reading (matching_span (drop i others) following) bytes ≡ r
span_at others i following d bytes r lt e = at_drop_more (λ l. reading (matching_span l following) bytes) others i d lt ∙ e

pub behind_at : (others : List Span) (i : ℕ) (span d : Span) → i < length others → behind (drop i others) span ≡ drop (i + 1) others
behind_at others i span d lt = at_drop_more (λ l. behind l span) others i d lt
