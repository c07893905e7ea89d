-- The parts of other tasks stay as they are.
use Rattle.std.proofs.Common.{◌||◌, ◌≡◌, ℕ, ◌==◌, Bool, true, false, cond, ◌&&◌, not, List, [], ◌∷◌, ◌++◌, filter, refl, sym, ap, ◌∙◌, subst}
use Rattle.std.specs.List.{AllByRecursion}
use Rattle.std.proofs.lemmas.Bool.{false_from_ne_true, both_ways, and_parts, cond_both, eqb-true}
use Rattle.lapi_base.specs.declared.script.Script.{Script}
use Rattle.lapi_base.specs.declared.rule.Rules.{Rules}
use Rattle.lapi_base.specs.declared.message.MsgName.{MsgName}
use Rattle.lapi_base.specs.declared.event.Event.{Event}
use Rattle.lapi_base.specs.declared.event.Event.TheVariants.{Issue, Refuse, Enter, Pass, Copy, Head, Land, Begin, End}
use Rattle.lapi_base.specs.declared.packet.Packet.{Packet}
use Rattle.lapi_base.specs.declared.message.Leg.TheVariants.{Go}
use Rattle.lapi_base.specs.Packet.Spelling.{refusal}
use Rattle.lapi_base.specs.Packet.PacketBytes.{packet_size}
use Rattle.lapi_base.specs.Record.Names.{leg_eq, EventKey, Begun, key_of, key_eq, happened}
use Rattle.lapi_base.specs.Record.Operations.{receiver}
use Rattle.lapi_base.specs.Record.Handlers.{has_completion}
use Rattle.lapi_base.specs.Record.Jobs.{is_job, landed_jobs, queue}
use Rattle.lapi_base.specs.Record.Wires.{Run}
use Rattle.lapi_base.specs.Record.Atomic.{Atomic, Keeps}
use Rattle.lapi_base.specs.Record.WorldView.{performed, HoldsOfRecords}
use Rattle.lapi_base.specs.Record.TaskPart.{place_of, place_of_key, is_at, events_at, Part, part_at, actor}
use Rattle.lapi_base.specs.Laws.Locality.{OthersStay, EventsAreOwn}
use Rattle.lapi_base.proofs.ListLaws.{all-append}
use Rattle.lapi_base.proofs.NameLaws.{deed_eq-true, happened-cons, happened-other}
use Rattle.lapi_base.proofs.TestLaws.{eqb-refl}
use Rattle.lapi_laws.proofs.Backward.{Atomic-head, Atomic-tail}
use Rattle.lapi_parts.proofs.Records.{record-sound}
use Rattle.lapi_parts.proofs.LocalEvents.{same-sym, jobs-local}
use Rattle.lapi_parts.proofs.LocalQuestions.{by_points}
use Rattle.lapi_parts.proofs.LineFrames.{Frame, events-other, perform-frame}

module _ (script : Script) (rules : Rules) where
  parts-by : (events events' : List Event) (put put' handed handed' : ℕ → List Packet) (owed owed' : ℕ → Bool) → events ≡ events' → put ≡ put' → handed ≡ handed' → owed ≡ owed' → (let P : Part = record { events = events; put = put; handed = handed; owed = owed } in P) ≡ record { events = events'; put = put'; handed = handed'; owed = owed' }
  parts-by events events' put put' handed handed' owed owed' e p h o = λ i. record { events = e i; put = p i; handed = h i; owed = o i }

  -- A line changes the part of its own task alone.
  pub part-apart : (t u : ℕ) (r s : Run) → Frame script t r s → (t == u) ≡ false → part_at script u s ≡ part_at script u r
  unfolding part_at
  part-apart t u r s f apart =
      parts-by (events_at script u s.journal) (events_at script u r.journal) (λ b. s.wire u b) (λ b. r.wire u b) (λ a. s.handed a u) (λ a. r.handed a u) (λ a. s.owed a u) (λ a. r.owed a u)
      (ap (events_at script u) f.journal ∙ events-other script t u f.added r.journal apart f.here)
      (by_points _ _ (λ b. f.wires u b (same-sym t u apart)))
      (by_points _ _ (λ a. f.hands a u (same-sym t u apart)))
      (by_points _ _ (λ a. f.owed a u (same-sym t u apart)))

  -- The queue of a task, by its own events.
  module _ (t : ℕ) where
    -- What happened at the task, by its own events.
    key-place : (e : Event) (J : List Event) → Keeps script rules J e → place_of_key script (key_of e) ≡ place_of script e
    key-place (Begin m a w) J k = eqb-true (receiver script m) a (and_parts _ _ (and_parts _ _ k.there).1).0
    key-place (End m a w) J k = eqb-true (receiver script m) a (and_parts _ _ (and_parts _ _ k.there).1).0
    key-place (Issue a i) J k = refl
    key-place (Refuse a i why) J k = refl
    key-place (Enter a i) J k = refl
    key-place (Pass a i) J k = refl
    key-place (Copy m) J k = refl
    key-place (Head m) J k = refl
    key-place (Land m) J k = refl

    other-place : (d : EventKey) (e : Event) (J : List Event) → Keeps script rules J e → place_of_key script d ≡ t → is_at script t e ≡ false → key_eq d (key_of e) ≡ false
    other-place d e J k at apart =
        false_from_ne_true _ (λ same.
        let here : place_of script e ≡ t = sym (key-place e J k) ∙ ap (place_of_key script) (sym (deed_eq-true d (key_of e) same)) ∙ at in
        both_ways _ apart (subst (λ x. (x == t) ≡ true) (sym here) (eqb-refl t)))

    pub happens-local : (d : EventKey) (J : List Event) → Atomic script rules J → place_of_key script d ≡ t → happened d (events_at script t J) ≡ happened d J
    unfolding events_at
    happens-local d [] h at = refl
    happens-local d (e ∷ J) h at =
        let old = happens-local d J (Atomic-tail script rules e J h) at in
        let E = events_at script t J in
        elim (is_at script t e) as (λ b. is_at script t e ≡ b → happened d (cond b (e ∷ E) E) ≡ happened d (e ∷ J)) [
          | true ↦ λ _. happened-cons d e E ∙ ap (λ x. key_eq d (key_of e) || x) old ∙ sym (happened-cons d e J)
          | false ↦ λ apart. old ∙ sym (happened-other d e J (other-place d e J (Atomic-head script rules e J h) at apart))
        ] refl

    jobs-here : (J : List Event) → AllByRecursion (λ m. receiver script m ≡ t) (landed_jobs script rules J t)
    unfolding landed_jobs is_job
    jobs-here [] = tt
    jobs-here (Land m ∷ J) = cond_both (leg_eq m.leg Go && (has_completion script rules m.origin m.statement && receiver script m == t)) (landed_jobs script rules J t ++ m ∷ []) (landed_jobs script rules J t) (AllByRecursion (λ n. receiver script n ≡ t)) (λ e. all-append (λ n. receiver script n ≡ t) (landed_jobs script rules J t) (m ∷ []) (jobs-here J) (eqb-true _ t (and_parts _ _ (and_parts _ _ e).1).1, tt)) (λ _. jobs-here J)
    jobs-here (Issue q i ∷ J) = jobs-here J
    jobs-here (Refuse q i r ∷ J) = jobs-here J
    jobs-here (Enter q i ∷ J) = jobs-here J
    jobs-here (Pass q i ∷ J) = jobs-here J
    jobs-here (Copy m ∷ J) = jobs-here J
    jobs-here (Head m ∷ J) = jobs-here J
    jobs-here (Begin m q w ∷ J) = jobs-here J
    jobs-here (End m q w ∷ J) = jobs-here J

    filter-agree : (p q : MsgName → Bool) (P : MsgName → Type 0) → ((m : MsgName) → P m → p m ≡ q m) → (xs : List MsgName) → AllByRecursion P xs → filter p xs ≡ filter q xs
    filter-agree p q P f [] h = refl
    filter-agree p q P f (x ∷ xs) h = ap (λ b. cond b (x ∷ filter p xs) (filter p xs)) (f x h.0) ∙ ap (λ ys. cond (q x) (x ∷ ys) ys) (filter-agree p q P f xs h.1)

    pub queue-local : (J : List Event) → Atomic script rules J → queue script rules (events_at script t J) t ≡ queue script rules J t
    unfolding queue
    queue-local J h =
        ap (filter (λ m. not (happened (Begun m) (events_at script t J)))) (jobs-local script t rules J)
        ∙ filter-agree (λ m. not (happened (Begun m) (events_at script t J))) (λ m. not (happened (Begun m) J)) (λ m. receiver script m ≡ t)
        (λ m at. ap not (happens-local (Begun m) J h at))
        (landed_jobs script rules J t) (jobs-here J)

-- the laws
pub others-stay : HoldsOfRecords OthersStay
unfolding performed
others-stay script rules r is = λ act u apart. part-apart script rules (actor act) u r (performed script rules r act) (perform-frame script rules packet_size refusal r act (record-sound script rules r is)) apart

pub events-own-task : HoldsOfRecords EventsAreOwn
unfolding performed
events-own-task script rules r is = λ act. let f = perform-frame script rules packet_size refusal r act (record-sound script rules r is) in (f.added, f.journal, f.here)
