-- The lines of a sweep, and what it adds to each wire, by how many numbers each Poll adds.
use Rattle.std.proofs.Common.{◌≡◌, ℕ, zero, suc, ◌+◌, ◌-◌, ◌<◌, ◌≤◌, ◌==◌, cond, ◌∷◌, ◌++◌, length, refl, sym, ap, ◌∙◌, subst, ⊎_elim, arith}
use Rattle.std.proofs.lemmas.Bool.{cases_lt}
use Rattle.lapi_base.specs.declared.script.Script.{Script}
use Rattle.lapi_base.specs.declared.rule.Rules.{Rules}
use Rattle.lapi_base.specs.declared.schedule.Act.TheVariants.{Poll}
use Rattle.lapi_base.specs.Packet.Spelling.{refusal}
use Rattle.lapi_base.specs.Packet.PacketBytes.{packet_size}
use Rattle.lapi_base.specs.Record.Wires.{Run, numbered}
use Rattle.lapi_base.specs.Record.Acts.{after}
use Rattle.lapi_laws.proofs.Lines.{SoundRun}
use Rattle.lapi_flush.specs.Flushed.{IsCalm, polled, flush}
use Rattle.lapi_flush.specs.Swept.{sweep_to, HasRoom}
use Rattle.lapi_flush.specs.Counted.{Counts, counts_of, flushed_counts, counted_part, counted_links, swept_counts, counted_sweep, new_numbers}
use Rattle.lapi_flush.proofs.NoneOwed.{IsPaid}
use Rattle.lapi_flush.proofs.ServedParts.{events-on}
use Rattle.lapi_flush.proofs.FlushedTasks.{flushed, poll-atomic, after-join}
use Rattle.lapi_flush.proofs.SweptTasks.{polled-adds, all-tasks}
use Rattle.lapi_flush.proofs.CountedFlushes.{counted}

module _ (script : Script) (rules : Rules) where
  -- they agree on all wires between tasks
  abbrev pub Agree : Counts → Counts → Type 0
  Agree c d = (x y : ℕ) → x < script.tasks → y < script.tasks → c x y ≡ d x y

  links-agree : (c d : Counts) (t : ℕ) (new old : ℕ → ℕ) → t < script.tasks → Agree c d → ((b : ℕ) → b < script.tasks → new b ≡ old b) → (n : ℕ) → n ≤ script.tasks → counted_links c t new n ≡ counted_links d t old n
  unfolding counted_links
  links-agree c d t new old lt same eq zero l = refl
  links-agree c d t new old lt same eq (suc b) l =
      let lb : b < script.tasks = omega arith in
      let h = links-agree c d t new old lt same eq b (omega arith) in
      let first = same t b lt lb in
      let back = same b t lb lt in
      let many = eq b lb in
      λ i. h i ++ counted_part t b (first i) (back i + cond (b == t) (many i) 0) (many i)

  flushed-agree : (c d : Counts) (t : ℕ) (new old : ℕ → ℕ) → Agree c d → ((b : ℕ) → b < script.tasks → new b ≡ old b) → Agree (flushed_counts c t new) (flushed_counts d t old)
  flushed-agree c d t new old same eq x y lx ly =
      let a = same x y lx ly in
      let p = eq y ly in
      let q = eq x lx in
      λ i. (a i + cond (x == t) (p i) 0) + cond (y == t) (q i) 0

  module _ (r : Run) (tops : ℕ → ℕ → ℕ) (room : HasRoom script rules r tops) (sound : SoundRun script rules r) (paid : IsPaid script rules r)
      (calm : (a b : ℕ) → a < script.tasks → b < script.tasks → IsCalm r a b (tops a b))
      (counts : Counts) (agree : Agree (counts_of r) counts) (new : ℕ → ℕ → ℕ) where
    abbrev pub swept_to : ℕ → Run
    swept_to n = after script rules packet_size refusal r (sweep_to script rules r n)

    -- each Poll of the sweep adds what `new` says
    abbrev pub Told : Type 0
    Told =
        (t b : ℕ) → t < script.tasks → b < script.tasks
        → length (numbered script (polled script rules (after script rules packet_size refusal r (sweep_to script rules r t)) t) t b) ≡ tops t b + new t b

    pub record Tallied (u : Run) (n : ℕ) : Type 0 where
      pub lines : sweep_to script rules r n ≡ counted_sweep script.tasks counts new n
      pub now : Agree (counts_of u) (swept_counts counts new n)
      pub calm_now : (a b : ℕ) → a < n → a < script.tasks → b < script.tasks → IsCalm u a b (tops a b + new a b)

    one-more : Told → (t : ℕ) → t < script.tasks → Tallied (swept_to t) t → Tallied (swept_to (suc t)) (suc t)
    unfolding sweep_to counted_sweep swept_counts
    one-more told t l c =
        let u = after script rules packet_size refusal r (sweep_to script rules r t) in
        let k = all-tasks script rules r tops room sound paid calm t (omega arith) in
        let K = polled script rules u t in
        let adds = events-on script rules r.journal u.journal K k.events (polled-adds script rules u t) in
        let atomic = poll-atomic script rules u t k.is_sound in
        let calms = λ (b : ℕ) (lb : b < script.tasks). k.rest t b (omega arith) l lb in
        let rooms = λ (b : ℕ) (lb : b < script.tasks). room K atomic adds t b l lb in
        let f = flushed script rules u t k.is_sound k.is_paid (tops t) calms rooms l in
        let g = counted script rules u t k.is_sound k.is_paid (tops t) calms rooms l in
        let is_new = λ (b : ℕ) (lb : b < script.tasks). less _ (tops t b) (new t b) (told t b l lb) in
        let v = after script rules packet_size refusal u (flush script rules u t) in
        let old = c.lines in
        let same = g.lines ∙ ap (λ acts. Poll t ∷ acts) (links-agree (counts_of u) (swept_counts counts new t) t (new_numbers script rules u t (tops t)) (new t) l c.now is_new script.tasks (omega arith)) in
        subst (λ w. Tallied w (suc t)) (sym (after-join script rules (sweep_to script rules r t) (flush script rules u t) r))
        (record {
          lines = λ i. old i ++ same i;
          now = λ x y lx ly. g.counts x y lx ly ∙ flushed-agree (counts_of u) (swept_counts counts new t) t (new_numbers script rules u t (tops t)) (new t) c.now is_new x y lx ly;
          calm_now = λ a b low la lb.
              ⊎_elim
              (λ (lt : a < t). f.others a b (tops a b + new a b) (λ e. absurd (omega arith)) (c.calm_now a b lt la lb))
              (λ (ge : t ≤ a).
              let is : t ≡ a = omega arith in
              subst (λ x. IsCalm v x b (tops x b + new x b)) is (subst (IsCalm v t b) (told t b l lb) (f.own b lb)))
              (cases_lt a t);
        })
      where
        less : (n a b : ℕ) → n ≡ a + b → n - a ≡ b
        less n a b e = omega arith

    pub tallied : Told → (n : ℕ) → n ≤ script.tasks → Tallied (swept_to n) n
    unfolding sweep_to after counted_sweep swept_counts
    tallied told zero l = record { lines = refl; now = agree; calm_now = λ a b low la lb. absurd (omega arith) }
    tallied told (suc t) l = one-more told t (omega arith) (tallied told t (omega arith))
