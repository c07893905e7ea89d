-- The tags of a link's numbers, as the journal and the link's end change.
use Rattle.std.proofs.Common.{◌≡◌, ℕ, zero, suc, ◌+◌, ◌-◌, ◌<◌, ◌≤◌, false, List, [], ◌∷◌, ◌++◌, map, length, Option, None, refl, sym, ap, ◌∙◌, subst, ⊎_elim, arith}
use Rattle.std.specs.Prelude.{slice_get, slice_index_or, nat_lt}
use Rattle.std.proofs.lemmas.Bool.{cond-false, cases_lt, lt-ltb, or_left, or_parts, both_ways, false≢true}
use Rattle.std.proofs.lemmas.List.{length-append, length-map}
use Rattle.lapi_base.specs.declared.script.Script.{Script}
use Rattle.lapi_base.specs.declared.rule.Rules.{Rules}
use Rattle.lapi_base.specs.declared.event.Event.{Event}
use Rattle.lapi_base.specs.declared.event.Event.TheVariants.{Copy}
use Rattle.lapi_base.specs.declared.message.MsgName.{MsgName}
use Rattle.lapi_base.specs.Record.Operations.{sender, receiver, fragment_count, fragments}
use Rattle.lapi_base.specs.Record.Wires.{numbered}
use Rattle.lapi_base.proofs.ListLaws.{get-after, get-before}
use Rattle.lapi_laws.proofs.Places.{fragments-get}
use Rattle.lapi_link.specs.Sender.{SendingEnd, IsNewSender, IsAcked, sent}
use Rattle.lapi_link.specs.Sender as link
use Rattle.lapi_window.specs.NumberSet.{is_in}
use Rattle.lapi_window.specs.SendWindow as window
use Rattle.lapi_task.specs.Outgoing.{outgoing, tag_of, extended}
use Rattle.lapi_task.specs.Sends.{message_tag, tag_at, HasTags}
use Rattle.lapi_task.proofs.Sending.Packets.{numbered-own}

index-before : (xs ys : List (Option ℕ)) (k : ℕ) (d : Option ℕ) → k < length xs → slice_index_or (xs ++ ys) k d ≡ slice_index_or xs k d
index-before [] ys k d l = absurd (omega (arith, l))
index-before (x ∷ xs) ys zero d l = refl
index-before (x ∷ xs) ys (suc k) d l = index-before xs ys k d (omega (arith, l))

index-after : (xs ys : List (Option ℕ)) (k : ℕ) (d : Option ℕ) → slice_index_or (xs ++ ys) (length xs + k) d ≡ slice_index_or ys k d
index-after [] ys k d = ap (λ n. slice_index_or ys n d) (let e : 0 + k ≡ k = omega arith in e)
index-after (x ∷ xs) ys k d = ap (λ n. slice_index_or (x ∷ xs ++ ys) n d) (let e : suc (length xs) + k ≡ suc (length xs + k) = omega arith in e) ∙ index-after xs ys k d

index-same : {X : Type 0} (xs : List X) (tag : Option ℕ) (k : ℕ) → k < length xs → slice_index_or (map (λ _. tag) xs) k None ≡ tag
index-same [] tag k l = absurd (omega (arith, l))
index-same (x ∷ xs) tag zero l = refl
index-same (x ∷ xs) tag (suc k) l = index-same xs tag k (omega (arith, l))

-- what is not acknowledged is not below the base
above-base : (s : SendingEnd) (n : ℕ) → window.is_acked s.window n ≡ false → nat_lt n s.window.acked.base ≡ false
unfolding is_in
above-base s n h = (or_parts (nat_lt n s.window.acked.base) _ h).0

pub tags-same : (script : Script) (s : SendingEnd) (J K : List Event) (a b : ℕ) → numbered script K a b ≡ numbered script J a b → HasTags script s J a b → HasTags script s K a b
unfolding tag_at
tags-same script s J K a b same h = record {
  count = h.count;
  tags = λ n l u. h.tags n l u ∙ sym (ap (λ (ps : List (MsgName × ℕ)). message_tag script (slice_get ps n)) same);
}

pub tags-acked : (script : Script) (old new : SendingEnd) (base bits : ℕ) (J : List Event) (a b : ℕ) → IsAcked old new base bits → HasTags script old J a b → HasTags script new J a b
tags-acked script old new base bits J a b g h = record {
  count = g.tagged;
  tags = λ n l u. g.tags n u ∙ h.tags n (subst (λ m. n < m) g.numbers l) (or_parts (window.is_acked old.window n) _ (sym (g.acked n) ∙ u)).0;
}

pub tags-new : (script : Script) (window : ℕ) (s : SendingEnd) (a b : ℕ) → IsNewSender window s → HasTags script s [] a b
unfolding is_in
tags-new script size s a b h =
    ⊎_elim
    (λ (some : 0 < s.window.acked.base). absurd (false≢true (sym (h.acked 0) ∙ or_left (nat_lt 0 s.window.acked.base) _ (lt-ltb 0 s.window.acked.base some))))
    (λ (none : s.window.acked.base ≤ 0). record {
      count = let t = ap length h.tags in let n = h.numbers in omega (arith, t, n, none);
      tags = λ n l u. let m = h.numbers in absurd (omega (arith, l, m));
    })
    (cases_lt 0 s.window.acked.base)

-- a packet that is sent keeps its tag
pub tags-sent : (script : Script) (s : SendingEnd) (k : ℕ) (J : List Event) (a b : ℕ) → HasTags script s J a b → HasTags script (sent s k) J a b
unfolding link.tag_of
tags-sent script s k J a b h = record { count = h.count; tags = h.tags }

-- the copy of a message gives its numbers its tag
pub tags-copied : (script : Script) (rules : Rules) (m : MsgName) (s : SendingEnd) (J : List Event) (packets : List (List ℕ)) → s.window.numbers ≡ length (numbered script J (sender script m) (receiver script m)) → length packets ≡ fragment_count script m → HasTags script s J (sender script m) (receiver script m) → HasTags script (extended s (tag_of (outgoing script m)) packets) (Copy m ∷ J) (sender script m) (receiver script m)
unfolding tag_at link.tag_of
tags-copied script rules m s J packets numbers size h =
    let a = sender script m in
    let b = receiver script m in
    let old = numbered script J a b in
    let base = s.window.acked.base in
    let tag = tag_of (outgoing script m) in
    let more = map (λ _. tag) packets in
    let own : numbered script (Copy m ∷ J) a b ≡ old ++ fragments script m = numbered-own script rules m J in
    record {
      count = let c = h.count in let l = length-append s.tags more in let k = length-map packets (λ _. tag) in omega (arith, c, l, k);
      tags = λ n l u.
          let above = above-base s n u in
          cond-false (nat_lt n base) None (slice_index_or (s.tags ++ more) (n - base) None) above
          ∙ ⊎_elim
          (λ (lt : n < s.window.numbers).
          index-before s.tags more (n - base) None (let c = h.count in let o = over s n u in omega (arith, c, o, lt))
          ∙ sym (cond-false (nat_lt n base) None (slice_index_or s.tags (n - base) None) above)
          ∙ h.tags n lt u
          ∙ ap (message_tag script) (sym (get-before old (fragments script m) n (omega (arith, lt, numbers))))
          ∙ ap (λ (ps : List (MsgName × ℕ)). message_tag script (slice_get ps n)) (sym own))
          (λ (ge : s.window.numbers ≤ n).
          let k = n - s.window.numbers in
          let fits : k < length packets = omega (arith, l, ge) in
          ap (λ i. slice_index_or (s.tags ++ more) i None) (let c = h.count in let e : n - base ≡ length s.tags + k = omega (arith, c, ge) in e)
          ∙ index-after s.tags more k None
          ∙ index-same packets tag k fits
          ∙ ap (message_tag script) (sym (fragments-get script m k (omega (arith, fits, size))))
          ∙ ap (message_tag script) (sym (get-after old (fragments script m) k))
          ∙ ap (λ i. message_tag script (slice_get (old ++ fragments script m) i)) (let e : length old + k ≡ n = omega (arith, numbers, ge) in e)
          ∙ ap (λ (ps : List (MsgName × ℕ)). message_tag script (slice_get ps n)) (sym own))
          (cases_lt n s.window.numbers);
    }
  where
    over : (s : SendingEnd) (n : ℕ) → window.is_acked s.window n ≡ false → s.window.acked.base ≤ n
    over s n u =
        ⊎_elim
        (λ (lt : n < s.window.acked.base). absurd (both_ways _ (above-base s n u) (lt-ltb n s.window.acked.base lt)))
        (λ (ge : s.window.acked.base ≤ n). ge)
        (cases_lt n s.window.acked.base)
