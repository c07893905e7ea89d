-- What is not done after a packet with data came.
use Rattle.std.proofs.Common.{◌≡◌, ℕ, ◌<◌, Bool, true, false, cond, ◌&&◌, List, [], ◌∷◌, ◌++◌, length, Option, Some, None, refl, sym, ap, ◌∙◌, subst}
use Rattle.std.specs.List.{AllByRecursion}
use Rattle.std.proofs.lemmas.Bool.{and_parts, ltb-true}
use Rattle.lapi_base.specs.declared.script.Script.{Script}
use Rattle.lapi_base.specs.declared.rule.Rules.{Rules}
use Rattle.lapi_base.specs.declared.event.Event.{Event}
use Rattle.lapi_base.specs.declared.event.Event.TheVariants.{Land}
use Rattle.lapi_base.specs.declared.head.Head.{Head}
use Rattle.lapi_base.specs.declared.message.Leg.TheVariants.{Go, Back}
use Rattle.lapi_base.specs.declared.message.MsgName.{MsgName}
use Rattle.lapi_base.specs.Record.Acts.{followed}
use Rattle.lapi_base.specs.Record.Atomic.{Atomic}
use Rattle.lapi_base.specs.Record.Handlers.{answers}
use Rattle.lapi_base.specs.Record.HeadSays.{is_active, follows}
use Rattle.lapi_base.specs.Record.Names.{happened, Copied}
use Rattle.lapi_base.specs.Record.Operations.{statements, statement, has_back, has_leg, receiver, to_by, target}
use Rattle.lapi_base.specs.Record.Wires.{Run, is_acked}
use Rattle.lapi_laws.proofs.Backward.{there}
use Rattle.lapi_task.specs.declared.unfinished.Unfinished.{Unfinished}
use Rattle.lapi_base.specs.declared.handler.HeaderOut.{HeaderOut}
use Rattle.lapi_task.specs.Answered.{completes_in}
use Rattle.lapi_task.specs.Landed.{Follower, follower, called, events_of}
use Rattle.lapi_task.specs.Unfinished.{flags_closed, flags_landed, IsOfStatement, Tracks}
use Rattle.lapi_task.proofs.Following.FollowerParts.{copies, follows-is}
use Rattle.lapi_task.proofs.Receiving.ReceiveEvents.{IsMild, polled-apart, come, come-mild, followed-append}
use Rattle.lapi_task.proofs.Acknowledging.UnfinishedLaws.{tracks-told, tracks-headed, tracks-landed, tracks-followed}

module _ (script : Script) (rules : Rules) (t : ℕ) where
  -- an answer is that of one of the task's own statements
  abbrev pub IsOwnAnswer : MsgName → Type 0
  IsOwnAnswer m = m.leg ≡ Back → (m.origin ≡ t) × (m.statement < length (statements script t)) × (has_back (statement script t m.statement) ≡ true)

  pub own-answer : (m : MsgName) (J : List Event) → Atomic script rules J → happened (Copied m) J ≡ true → has_leg script (answers script rules m.origin m.statement) m.origin m.leg (statement script m.origin m.statement) ≡ true → receiver script m ≡ t → IsOwnAnswer m
  own-answer m J atomic copied leg place = λ e.
      let own : m.origin ≡ t = ap (λ l. to_by m.origin (target script m.origin m.statement) l) (sym e) ∙ place in
      let known = (and_parts _ _ (there script rules (Copied m) J atomic copied)).0 in (
        own,
        subst (λ a. m.statement < length (statements script a)) own (ltb-true m.statement (length (statements script m.origin)) (and_parts _ _ known).1),
        subst (λ a. has_back (statement script a m.statement) ≡ true) own (ap (λ l. has_leg script (answers script rules m.origin m.statement) m.origin l (statement script m.origin m.statement)) (sym e) ∙ leg),
      )

  pub come-of : (whole : Bool) (m : MsgName) (h : Head) (bytes : List ℕ) (out : Option HeaderOut) (count : ℕ) → count ≡ length (statements script t) → IsOwnAnswer m → IsOfStatement (come whole m h bytes out) count
  come-of false m h bytes out count size own = tt
  come-of true m h bytes out count size own = λ e. subst (λ n. m.statement < n) (sym size) (own e).1

  module _ (r : Run) (u : Unfinished) (tracks : Tracks script rules t u r) where
    followed-tracks : (m : MsgName) → IsOwnAnswer m → (o : Option Follower) → AllByRecursion IsMild (copies o) → Atomic script rules (followed (Land m ∷ r.journal) (copies o)) → Tracks script rules t (record u { undone = flags_closed m u.undone }) (record r { journal = followed (Land m ∷ r.journal) (copies o) })
    unfolding followed
    followed-tracks m own None mild atomic = tracks-landed script rules t u r m own tracks
    followed-tracks m own (Some x) mild atomic = tracks-followed script rules t (record u { undone = flags_closed m u.undone }) (record r { journal = Land m ∷ r.journal }) x.packet.name (polled-apart Go x.packet.name.leg refl mild.0) atomic (tracks-landed script rules t u r m own tracks)

    landing-tracks : (count : ℕ) (whole : Bool) (m : MsgName) (h : Head) (bytes : List ℕ) (out : Option HeaderOut) (memory : List ℕ) (a : ℕ) → Atomic script rules (followed r.journal (events_of count (come whole m h bytes out))) → IsOwnAnswer m → Tracks script rules t (record u { undone = flags_landed (come whole m h bytes out) u.undone }) (record r { journal = followed r.journal (events_of count (come whole m h bytes out)) })
    unfolding followed
    landing-tracks count false m h bytes out memory a atomic own = tracks
    landing-tracks count true m h bytes out memory a atomic own =
        let completion = completes_in count out in
        let o = follower script.layout t a m h completion memory in
        let is : followed (Land m ∷ r.journal) (follows h completion m) ≡ followed (Land m ∷ r.journal) (copies o) = ap (followed (Land m ∷ r.journal)) (follows-is script.layout t a m completion memory h) in
        let mild : AllByRecursion IsMild (copies o) = subst (AllByRecursion IsMild) (follows-is script.layout t a m completion memory h) (come-mild count false true m h bytes out).1 in
        subst (λ J. Tracks script rules t (record u { undone = flags_closed m u.undone }) (record r { journal = J })) (sym is)
        (followed-tracks m own o mild (subst (Atomic script rules) is atomic))

  called-tracks : (first active : Bool) (m : MsgName) (r : Run) (u : Unfinished) → Tracks script rules t u r → Tracks script rules t u (record r { journal = followed r.journal (cond (first && active) (Event.Head m ∷ []) []) })
  unfolding followed
  called-tracks true true m r u h = tracks-headed script rules t u r m h
  called-tracks true false m r u h = h
  called-tracks false active m r u h = h

  -- After a packet came the operations are tracked: an answer that landed closes its own.
  pub tracks-come : (r : Run) (u : Unfinished) → Tracks script rules t u r → (count : ℕ) (first whole : Bool) (m : MsgName) (h : Head) (bytes : List ℕ) (out : Option HeaderOut) (memory : List ℕ) (a : ℕ) (w : Run) → w.journal ≡ followed r.journal (called first m h ++ events_of count (come whole m h bytes out)) → ((b n : ℕ) → is_acked w t b n ≡ is_acked r t b n) → Atomic script rules (followed r.journal (called first m h ++ events_of count (come whole m h bytes out))) → IsOwnAnswer m → Tracks script rules t (record u { undone = flags_landed (come whole m h bytes out) u.undone }) w
  tracks-come r u tracks count first whole m h bytes out memory a w same told atomic own =
      let es = events_of count (come whole m h bytes out) in
      let mid = record r { journal = followed r.journal (called first m h) } in
      let all = followed-append (called first m h) es r.journal in
      let then = record r { journal = followed mid.journal es } in
      tracks-told script rules t (record u { undone = flags_landed (come whole m h bytes out) u.undone }) then w (same ∙ all) told
      (landing-tracks mid u (called-tracks first (is_active h) m r u tracks) count whole m h bytes out memory a (subst (Atomic script rules) all atomic) own)
