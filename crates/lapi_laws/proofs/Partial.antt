-- At most as many messages of a link are partly delivered as the window has numbers.
use Rattle.std.proofs.Common.{◌≡◌, ℕ, suc, ◌+◌, ◌-◌, ◌<◌, ◌≤◌, ◌==◌, eqb, true, false, ◌&&◌, List, [], ◌∷◌, ◌++◌, length, Some, refl, sym, ap, ◌∙◌, subst, ⊎_elim, arith}
use Rattle.std.specs.Prelude.{slice_get}
use Rattle.std.specs.List.{AllByRecursion, IsDistinct}
use Rattle.std.proofs.lemmas.Bool.{both_ways, cond_both, eqb-true, cases_lt, false_from_ne_true}
use Rattle.std.proofs.lemmas.Map.Steps.{length-le_from_distinct_below}
use Rattle.lapi_base.specs.declared.script.Script.{Script}
use Rattle.lapi_base.specs.declared.rule.Rules.{Rules}
use Rattle.lapi_base.specs.declared.message.MsgName.{MsgName}
use Rattle.lapi_base.specs.declared.event.Event.{Event}
use Rattle.lapi_base.specs.declared.event.Event.TheVariants.{Copy}
use Rattle.lapi_base.specs.Record.Names.{name_eq, Copied, happened}
use Rattle.lapi_base.specs.Record.Operations.{sender, receiver, fragments, fragment_count}
use Rattle.lapi_base.specs.Record.Wires.{Run, numbered, is_delivered, least_undelivered}
use Rattle.lapi_base.specs.Record.Acts.{run_of}
use Rattle.lapi_base.specs.Record.Atomic.{Atomic}
use Rattle.lapi_base.specs.Laws.Headline.{HoldsOfRuns}
use Rattle.lapi_base.specs.Packet.Layout.{window_of}
use Rattle.lapi_base.specs.Laws.Links.{IsNumberOf, IsPartlyDelivered, FewArePartial}
use Rattle.lapi_base.proofs.BelowLaws.{least_missing-below}
use Rattle.lapi_base.proofs.LayoutLaws.{window-positive}
use Rattle.lapi_base.proofs.ListLaws.{any-all, get-front, get-places, get-right, some-same}
use Rattle.lapi_base.proofs.NameLaws.{name_eq-refl}
use Rattle.lapi_laws.proofs.Out.{numbered-copied}
use Rattle.lapi_laws.proofs.Backward.{Atomic-head, Atomic-tail}
use Rattle.lapi_laws.proofs.Runs.{run-sound}
use Rattle.lapi_laws.proofs.Places.{fragments-at, fragments-get}
use Rattle.lapi_laws.proofs.Reach.{delivered-reach}

module _ (script : Script) (rules : Rules) where
  -- the numbers of a message stand together
  between : (J : List Event) (a b n i k : ℕ) (m : MsgName) (f g : ℕ) → Atomic script rules J → slice_get (numbered script J a b) n ≡ Some (m, f) → slice_get (numbered script J a b) k ≡ Some (m, g) → n ≤ i → i ≤ k → (j : ℕ) × (slice_get (numbered script J a b) i ≡ Some (m, j))
  unfolding numbered
  between [] a b n i k m f g h p q low high = absurd (cc)
  between (Copy c ∷ J) a b n i k m f g h p q low high =
      let tail = Atomic-tail script rules (Copy c) J h in
      let new = (Atomic-head script rules (Copy c) J h).once in
      let old = numbered script J a b in
      cond_both (sender script c == a && receiver script c == b) (old ++ fragments script c) old (λ xs. slice_get xs n ≡ Some (m, f) → slice_get xs k ≡ Some (m, g) → (j : ℕ) × (slice_get xs i ≡ Some (m, j)))
      (λ _ p' q'.
      ⊎_elim
      (λ (u : slice_get old n ≡ Some (m, f)).
      ⊎_elim
      (λ (v : slice_get old k ≡ Some (m, g)). let r = between J a b n i k m f g tail u v low high in (r.0, get-front old (fragments script c) i (m, r.0) r.1))
      (λ (v : (y : ℕ) × ((k ≡ length old + y) × (slice_get (fragments script c) y ≡ Some (m, g)))). absurd (both_ways _ new (subst (λ z. happened (Copied z) J ≡ true) (sym (fragments-at script c v.0 (m, g) v.1.1).0) (numbered-copied script J a b n (m, f) u).0)))
      (get-places old (fragments script c) k (m, g) q'))
      (λ (u : (y : ℕ) × ((n ≡ length old + y) × (slice_get (fragments script c) y ≡ Some (m, f)))).
      ⊎_elim
      (λ (v : slice_get old k ≡ Some (m, g)). absurd (both_ways _ new (subst (λ z. happened (Copied z) J ≡ true) (sym (fragments-at script c u.0 (m, f) u.1.1).0) (numbered-copied script J a b k (m, g) v).0)))
      (λ (v : (y : ℕ) × ((k ≡ length old + y) × (slice_get (fragments script c) y ≡ Some (m, g)))).
      let last = fragments-at script c v.0 (m, g) v.1.1 in
      let j = i - length old in
      let room : j < fragment_count script c = omega (arith, last.1, last.2, v.1.0) in
      let place : length old + j ≡ i = omega (arith, u.1.0) in
      (j, subst (λ z. slice_get (old ++ fragments script c) z ≡ Some (m, j)) place (subst (λ z. slice_get (old ++ fragments script c) (length old + j) ≡ Some (z, j)) last.0 (get-right old (fragments script c) j (c, j) (fragments-get script c j room)))))
      (get-places old (fragments script c) k (m, g) q'))
      (get-places old (fragments script c) n (m, f) p'))
      (λ _ p' q'. between J a b n i k m f g tail p' q' low high)
      p q
  between (e ∷ J) a b n i k m f g h p q low high = between J a b n i k m f g (Atomic-tail script rules e J h) p q low high

  -- A link whose delivered numbers stay in the window.
  module _ (r : Run) (a b : ℕ) (h : Atomic script rules r.journal) (reach : (n : ℕ) → is_delivered r a b n ≡ true → n < least_undelivered script r a b + window_of script) where
    -- the least number that wasn't delivered
    abbrev pub least : ℕ
    least = least_undelivered script r a b

    -- a message that is partly delivered has a number in the window
    pub inside : (m : MsgName) → IsPartlyDelivered script rules r a b m → (i : ℕ) × (i < window_of script) × IsNumberOf script rules r a b m (least + i)
    inside m (n, k, at, got, other, lacks) =
        ⊎_elim
        (λ (low : n < least).
        let high : least ≤ k = ⊎_elim (λ (x : k < least). absurd (both_ways _ lacks (least_missing-below (length (numbered script r.journal a b)) (is_delivered r a b) k x))) (λ (x : least ≤ k). x) (cases_lt k least) in
        let s = between r.journal a b n least k m at.0 other.0 h at.1 other.1 (let l : n ≤ least = omega arith in l) high in
        (0, window-positive script, (s.0, subst (λ z. slice_get (numbered script r.journal a b) z ≡ Some (m, s.0)) (let e : least ≡ least + 0 = omega arith in e) s.1)))
        (λ (ge : least ≤ n). (n - least, omega (arith, reach n got), (at.0, subst (λ z. slice_get (numbered script r.journal a b) z ≡ Some (m, at.0)) (let e : n ≡ least + (n - least) = omega arith in e) at.1)))
        (cases_lt n least)

    -- such a number of each message: they are as many, below the window, and different
    pub offsets : (ms : List MsgName) → AllByRecursion (IsPartlyDelivered script rules r a b) ms → List ℕ
    offsets [] x = []
    offsets (m ∷ ms) x = (inside m x.0).0 ∷ offsets ms x.1

    -- they are as many as the messages
    pub offsets-length : (ms : List MsgName) (x : AllByRecursion (IsPartlyDelivered script rules r a b) ms) → length (offsets ms x) ≡ length ms
    unfolding offsets
    offsets-length [] x = refl
    offsets-length (m ∷ ms) x = ap suc (offsets-length ms x.1)

    -- they are below the window
    pub offsets-below : (ms : List MsgName) (x : AllByRecursion (IsPartlyDelivered script rules r a b) ms) → AllByRecursion (λ n. n < window_of script) (offsets ms x)
    unfolding offsets
    offsets-below [] x = tt
    offsets-below (m ∷ ms) x = ((inside m x.0).1, offsets-below ms x.1)

    -- that of another message is another
    pub offsets-new : (m : MsgName) (i : ℕ) → IsNumberOf script rules r a b m (least + i) → (ms : List MsgName) (x : AllByRecursion (IsPartlyDelivered script rules r a b) ms) → AllByRecursion (λ c. name_eq m c ≡ false) ms → AllByRecursion (λ k. eqb i k ≡ false) (offsets ms x)
    unfolding offsets
    offsets-new m i at [] x d = tt
    offsets-new m i at (c ∷ ms) x d =
        let other = inside c x.0 in (
          false_from_ne_true _ (λ same.
              let pairs = some-same (m, at.0) (c, other.2.0) (sym at.1 ∙ subst (λ z. slice_get (numbered script r.journal a b) (least + z) ≡ Some (c, other.2.0)) (sym (eqb-true i other.0 same)) other.2.1) in
              both_ways _ d.0 (subst (λ z. name_eq m z ≡ true) (ap (λ (y : MsgName × ℕ). y.0) pairs) (name_eq-refl m))),
          offsets-new m i at ms x.1 d.1,
        )

    -- so those of different messages are different
    pub offsets-apart : (ms : List MsgName) (x : AllByRecursion (IsPartlyDelivered script rules r a b) ms) → IsDistinct name_eq ms → IsDistinct eqb (offsets ms x)
    unfolding offsets IsDistinct
    offsets-apart [] x d = tt
    offsets-apart (m ∷ ms) x d = let s = inside m x.0 in (offsets-new m s.0 s.2 ms x.1 d.0, offsets-apart ms x.1 d.1)

    -- so there are few messages
    few : (ms : List MsgName) → IsDistinct name_eq ms → AllByRecursion (IsPartlyDelivered script rules r a b) ms → length ms ≤ window_of script
    few ms d x =
        let all = length-le_from_distinct_below (offsets ms x) (window_of script) (offsets-apart ms x d) (λ q found. let s = any-all (eqb q) (λ n. n < window_of script) (offsets ms x) (offsets-below ms x) found in subst (λ k. k < window_of script) (sym (eqb-true q s.0 s.2)) s.1) in
        omega (arith, offsets-length ms x)

-- the law, of every run
pub few-partial : HoldsOfRuns FewArePartial
few-partial script rules spells size refusal acts v = λ a b ms d x. few script rules (run_of script rules size refusal acts) a b (run-sound script rules spells size refusal acts v).atomic (delivered-reach script rules spells size refusal acts v a b) ms d x
