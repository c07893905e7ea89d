-- The counters, as they are kept, stand for the journal.
use Rattle.std.proofs.Common.{◌≡◌, ℕ, ◌+◌, ◌-◌, ◌<◌, ◌==◌, Bool, true, false, cond, ◌&&◌, ◌||◌, not, List, [], ◌∷◌, length, Option, None, Some, refl, sym, ap, ◌∙◌, get_or, set, length-set, arith}
use Rattle.std.specs.Prelude.{nat_le}
use Rattle.std.proofs.lemmas.Bool.{cond_both, cond-true, eqb-true, and_parts}
use Rattle.lapi_base.specs.declared.script.Script.{Script}
use Rattle.lapi_base.specs.declared.rule.Rules.{Rules}
use Rattle.lapi_base.specs.declared.statement.Statement.{Statement}
use Rattle.lapi_base.specs.declared.statement.Statement.TheVariants.{Wait, Set}
use Rattle.lapi_base.specs.declared.message.Leg.{Leg}
use Rattle.lapi_base.specs.declared.message.Leg.TheVariants.{Go, Back, Note, Echo, Join}
use Rattle.lapi_base.specs.declared.message.MsgName.{MsgName}
use Rattle.lapi_base.specs.declared.event.Event.{Event}
use Rattle.lapi_base.specs.declared.event.Event.TheVariants.{Issue, Refuse, Enter, Pass, Copy, Head, Land, Begin, End}
use Rattle.lapi_base.specs.Record.Names.{key_of}
use Rattle.lapi_base.specs.Record.Operations.{statement, target, has_back, tgt_counter, org_counter}
use Rattle.lapi_base.specs.Record.Counters.{is_counter, copy_tells, land_tells, tells, issued_count, passed_count, count}
use Rattle.lapi_base.specs.Record.Atomic.{Keeps, pass_allowed}
use Rattle.lapi_audit.specs.Counts.{value, with_value, less, announced, announced_at, told_copy, told_go, told_land, told, issued, passed, after, CountsStand}
use Rattle.lapi_calls.specs.Places.{task_of, statement_of}
use Rattle.lapi_calls.specs.Setting.{completes, target_by}
use Rattle.lapi_laws.proofs.CellLaws.{place-sym, item-at, cell-at}
use Rattle.lapi_audit.proofs.CompletionLaws.{completes_by}

-- one more at the counter that is told
at-counter : (tasks : List (List ℕ)) (a : ℕ) (o : Option ℕ) (t c : ℕ) → t < length tasks → c < length (get_or tasks t []) → value (announced tasks a o) t c ≡ value tasks t c + cond (is_counter o a t c) 1 0
at-counter tasks a None t c lt lc = let q : value tasks t c ≡ value tasks t c + 0 = omega arith in q
at-counter tasks a (Some d) t c lt lc =
    cell-at tasks a d t c (value tasks a d + 1) 0 lt lc
    ∙ elim (t == a && c == d) as (λ b. (t == a && c == d) ≡ b → cond b (value tasks a d + 1) (value tasks t c) ≡ value tasks t c + cond (a == t && d == c) 1 0) [
      | true ↦ λ e.
          let both = and_parts (t == a) (c == d) e in
          (λ k. value tasks (sym (eqb-true t a both.0) k) (sym (eqb-true c d both.1) k) + 1)
          ∙ (λ k. value tasks t c + cond ((sym e ∙ place-sym t c a d) k) 1 0)
      | false ↦ λ e. (let q : value tasks t c ≡ value tasks t c + 0 = omega arith in q) ∙ (λ k. value tasks t c + cond ((sym e ∙ place-sym t c a d) k) 1 0)
    ] refl

module _ (script : Script) (rules : Rules) where
  -- the counter that an event tells
  go-told : (m : MsgName) (s : Statement) (b later : Bool) (t c : ℕ) → ((not b && not later) && is_counter (tgt_counter s) (target_by m s) t c) ≡ is_counter (told_go m s (b || later)).1 (told_go m s (b || later)).0 t c
  go-told m s true later t c = refl
  go-told m s false true t c = refl
  go-told m s false false t c = refl

  copy-told : (m : MsgName) (leg : Leg) (t c : ℕ) → copy_tells script rules m leg (statement script m.origin m.statement) t c ≡ is_counter (told_copy m leg (statement script m.origin m.statement)).1 (told_copy m leg (statement script m.origin m.statement)).0 t c
  copy-told m Go t c =
      elim (has_back (statement script m.origin m.statement)) as (λ b. (not b && is_counter (org_counter (statement script m.origin m.statement)) m.origin t c) ≡ is_counter (cond b None (org_counter (statement script m.origin m.statement))) m.origin t c) [
        | true ↦ refl
        | false ↦ refl
      ]
  copy-told m Back t c = refl
  copy-told m Note t c = refl
  copy-told m Echo t c = refl
  copy-told m (Join d) t c = refl

  land-told : (m : MsgName) (leg : Leg) (t c : ℕ) → land_tells script rules m leg (statement script m.origin m.statement) t c ≡ is_counter (told_land rules m leg (statement script m.origin m.statement)).1 (told_land rules m leg (statement script m.origin m.statement)).0 t c
  land-told m Go t c =
      let s = statement script m.origin m.statement in
      (λ k. (not (has_back s) && not (completes_by script rules m.origin m.statement k)) && is_counter (tgt_counter s) (target script m.origin m.statement) t c)
      ∙ go-told m s (has_back s) (completes rules s) t c
  land-told m Back t c = refl
  land-told m Note t c = refl
  land-told m Echo t c = refl
  land-told m (Join d) t c = refl

  tells-told : (e : Event) (t c : ℕ) → tells script rules e t c ≡ is_counter (told rules e (statement script (task_of (key_of e)) (statement_of (key_of e)))).1 (told rules e (statement script (task_of (key_of e)) (statement_of (key_of e)))).0 t c
  unfolding tells
  tells-told (Copy m) t c = copy-told m m.leg t c
  tells-told (Land m) t c = land-told m m.leg t c
  tells-told (End m b w) t c = refl
  tells-told (Issue a i) t c = refl
  tells-told (Refuse a i y) t c = refl
  tells-told (Enter a i) t c = refl
  tells-told (Pass a i) t c = refl
  tells-told (Head m) t c = refl
  tells-told (Begin m b w) t c = refl

  told-value : (tasks : List (List ℕ)) (J : List Event) (e : Event) (t c : ℕ) → t < length tasks → c < length (get_or tasks t []) → value tasks t c ≡ count script rules J t c → value (announced_at tasks (told rules e (statement script (task_of (key_of e)) (statement_of (key_of e))))) t c ≡ count script rules J t c + cond (tells script rules e t c) 1 0
  told-value tasks J e t c lt lc old =
      let at = told rules e (statement script (task_of (key_of e)) (statement_of (key_of e))) in
      at-counter tasks at.0 at.1 t c lt lc ∙ (λ k. old k + cond (sym (tells-told e t c) k) 1 0)

  issued-value : (tasks : List (List ℕ)) (s : Statement) (a t c n : ℕ) → t < length tasks → c < length (get_or tasks t []) → value tasks t c ≡ n → value (issued a s tasks) t c ≡ issued_count script rules s a t c n
  issued-value tasks (Set counter v) a t c n lt lc old = cell-at tasks a counter t c v 0 lt lc ∙ (λ k. cond (place-sym t c a counter k) v (old k))
  issued-value tasks _ a t c n lt lc old = old

  passed-value : (tasks : List (List ℕ)) (J : List Event) (s : Statement) (a i t c : ℕ) → t < length tasks → c < length (get_or tasks t []) → value tasks t c ≡ count script rules J t c → pass_allowed script rules J a i s ≡ true → value (passed a s tasks) t c ≡ passed_count script rules s a t c (count script rules J t c)
  passed-value tasks J (Wait counter v) a i t c lt lc old has =
      cell-at tasks a counter t c (less (value tasks a counter) v) 0 lt lc
      ∙ elim (t == a && c == counter) as (λ b. (t == a && c == counter) ≡ b → cond b (less (value tasks a counter) v) (value tasks t c) ≡ passed_count script rules (Wait counter v) a t c (count script rules J t c)) [
        | true ↦ λ e.
            let both = and_parts (t == a) (c == counter) e in
            let ta = eqb-true t a both.0 in
            let cc' = eqb-true c counter both.1 in
            let n = count script rules J t c in
            let enough : nat_le v n ≡ true = (λ k. nat_le v (count script rules J (ta k) (cc' k))) ∙ has in
            (λ k. less (value tasks (sym ta k) (sym cc' k)) v)
            ∙ (λ k. less (old k) v)
            ∙ cond-true (nat_le v n) (n - v) n enough
            ∙ (λ k. cond ((sym e ∙ place-sym t c a counter) k) (n - v) n)
        | false ↦ λ e. old ∙ (λ k. cond ((sym e ∙ place-sym t c a counter) k) (count script rules J t c - v) (count script rules J t c))
      ] refl
  passed-value tasks J _ a i t c lt lc old has = old

  -- the places of all counters stay
  abbrev Same : List (List ℕ) → List (List ℕ) → Type 0
  Same new old = (length new ≡ length old) × ((t : ℕ) → t < length old → length (get_or new t []) ≡ length (get_or old t []))

  same-with : (tasks : List (List ℕ)) (a d n : ℕ) → Same (with_value tasks a d n) tasks
  same-with tasks a d n = (
    length-set tasks a (set (get_or tasks a []) d n),
    λ t l.
        ap length (item-at tasks a t (set (get_or tasks a []) d n) [] l)
        ∙ cond_both (t == a) (set (get_or tasks a []) d n) (get_or tasks t []) (λ row. length row ≡ length (get_or tasks t []))
        (λ e. length-set (get_or tasks a []) d n ∙ ap (λ k. length (get_or tasks k [])) (sym (eqb-true t a e)))
        (λ _. refl),
  )

  same-told : (tasks : List (List ℕ)) (a : ℕ) (o : Option ℕ) → Same (announced tasks a o) tasks
  same-told tasks a None = (refl, λ t l. refl)
  same-told tasks a (Some d) = same-with tasks a d (value tasks a d + 1)

  same-issued : (tasks : List (List ℕ)) (a : ℕ) (s : Statement) → Same (issued a s tasks) tasks
  same-issued tasks a (Set counter v) = same-with tasks a counter v
  same-issued tasks a _ = (refl, λ t l. refl)

  same-passed : (tasks : List (List ℕ)) (a : ℕ) (s : Statement) → Same (passed a s tasks) tasks
  same-passed tasks a (Wait counter v) = same-with tasks a counter (less (value tasks a counter) v)
  same-passed tasks a _ = (refl, λ t l. refl)

  stands-by : (old new : List (List ℕ)) (J K : List Event) → CountsStand script rules old J → Same new old → ((t c : ℕ) → t < length old → c < length (get_or old t []) → value old t c ≡ count script rules J t c → value new t c ≡ count script rules K t c) → CountsStand script rules new K
  stands-by old new J K s same values =
      let n1 = s.task_count in
      record {
        task_count = same.0 ∙ s.task_count;
        counter_count = λ t l. same.1 t (let q : t < length old = omega arith in q) ∙ s.counter_count t l;
        values = λ t c lt lc. let n2 = s.counter_count t lt in values t c (let q : t < length old = omega arith in q) (let q : c < length (get_or old t []) = omega arith in q) (s.values t c lt lc);
      }

  -- after an event the counters stand for the journal with it
  pub counts-after : (tasks : List (List ℕ)) (J : List Event) (e : Event) → Keeps script rules J e → CountsStand script rules tasks J → CountsStand script rules (after rules e (statement script (task_of (key_of e)) (statement_of (key_of e))) tasks) (e ∷ J)
  unfolding count
  counts-after tasks J (Issue a i) k s = stands-by tasks (issued a (statement script a i) tasks) J (Issue a i ∷ J) s (same-issued tasks a (statement script a i)) (λ t c lt lc old. issued-value tasks (statement script a i) a t c (count script rules J t c) lt lc old)
  counts-after tasks J (Pass a i) k s = stands-by tasks (passed a (statement script a i) tasks) J (Pass a i ∷ J) s (same-passed tasks a (statement script a i)) (λ t c lt lc old. passed-value tasks J (statement script a i) a i t c lt lc old k.waits)
  counts-after tasks J (Refuse a i y) k s = stands-by tasks _ J (Refuse a i y ∷ J) s (same-told tasks 0 None) (λ t c lt lc old. told-value tasks J (Refuse a i y) t c lt lc old)
  counts-after tasks J (Enter a i) k s = stands-by tasks _ J (Enter a i ∷ J) s (same-told tasks 0 None) (λ t c lt lc old. told-value tasks J (Enter a i) t c lt lc old)
  counts-after tasks J (Head m) k s = stands-by tasks _ J (Head m ∷ J) s (same-told tasks 0 None) (λ t c lt lc old. told-value tasks J (Head m) t c lt lc old)
  counts-after tasks J (Begin m b w) k s = stands-by tasks _ J (Begin m b w ∷ J) s (same-told tasks 0 None) (λ t c lt lc old. told-value tasks J (Begin m b w) t c lt lc old)
  counts-after tasks J (Copy m) k s = let at = told_copy m m.leg (statement script m.origin m.statement) in stands-by tasks (announced tasks at.0 at.1) J (Copy m ∷ J) s (same-told tasks at.0 at.1) (λ t c lt lc old. told-value tasks J (Copy m) t c lt lc old)
  counts-after tasks J (Land m) k s = let at = told_land rules m m.leg (statement script m.origin m.statement) in stands-by tasks (announced tasks at.0 at.1) J (Land m ∷ J) s (same-told tasks at.0 at.1) (λ t c lt lc old. told-value tasks J (Land m) t c lt lc old)
  counts-after tasks J (End m b w) k s = stands-by tasks _ J (End m b w ∷ J) s (same-told tasks b (tgt_counter (statement script m.origin m.statement))) (λ t c lt lc old. told-value tasks J (End m b w) t c lt lc old)
