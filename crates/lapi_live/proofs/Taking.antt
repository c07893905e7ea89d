-- What a call of a shared world makes of its pass.
use Rattle.std.proofs.Common.{◌≡◌, ℕ, ◌==◌, true, false, List, [], ◌∷◌, ◌++◌, Option, Some, None, refl, sym, ap, ◌∙◌, subst}
use Rattle.std.specs.Prelude.{Result, Ok, Err, is_ok, OnOk, OnErr, IfOk, option_map, unwrap_or}
use Rattle.std.specs.Int.{bit_at}
use Rattle.std.proofs.lemmas.Bool.{and_from, eq-eqb}
use Rattle.lapi_base.specs.declared.memory.Memory.{Memory}
use Rattle.lapi_base.specs.declared.reply.Reply.{Reply}
use Rattle.lapi_base.specs.declared.schedule.Act.{Act}
use Rattle.lapi_base.specs.declared.schedule.Line.{Line}
use Rattle.lapi_base.specs.Record.WorldView.{WorldView, act_at, view_record}
use Rattle.lapi_handlers.specs.declared.begun.Begun.{Begun}
use Rattle.lapi_handlers.specs.declared.finished.Finished.{Finished}
use Rattle.lapi_turn.specs.Entries.{Entry, Follows, list_after}
use Rattle.lapi_world.specs.Jobs.{BeginsAt, EndsAt, IsBeginLine, IsPlainLine, IsEndWith, HandsOut, begun_reply}
use Rattle.lapi_base.specs.Laws.Working.{works_at}
use Rattle.lapi_base.specs.Record.Lanes.{is_work_of}
use Rattle.lapi_live.specs.Histories.{IsOwn, OwnAfter, HasWorker, GoesOn, IsShareable, LastReply, SameJob, SameJobs, SameOtherJobs, IsNoJob, job_after, record_after, IsOfWorkerAfter}
use Rattle.lapi_live.specs.Rooms.{plan_of_world, entry_of, entries_of, numbers_of, IsLined, Replies, MayLine, MayBegin, LawfulEnd}
use Rattle.lapi_live.proofs.Lined.{numbers-entries, entries-lined, lined-after, goes_on, numbers-more}
use Rattle.lapi_live.proofs.OwnLanes.{own-more, own-same}
use Rattle.lapi_live.proofs.OtherLines.{same_jobs, same_others, same_plain}
use Rattle.lapi_live.proofs.BeginsEnds.{freed_after, same_idle}

-- What the world answers.
replies-at : (plan : WorldView) (schedule : List Line) (taken : List ℕ) (n : ℕ) (reply : Reply) → (record_after plan (taken ++ n ∷ [])).replies ≡ (record_after plan taken).replies ++ reply ∷ [] → Replies plan (entries_of schedule taken) n reply
replies-at plan schedule taken n reply h = subst (λ (l : List ℕ). (record_after plan (l ++ n ∷ [])).replies ≡ (record_after plan l).replies ++ reply ∷ []) (sym (numbers-entries schedule taken)) h

abbrev pub Grows : WorldView → WorldView → ℕ → Type 0
Grows w new n = (w.spent ≡ false) × (new ≡ record w { taken = w.taken ++ n ∷ [] })

replies-grown : (w new : WorldView) (n : ℕ) (reply : Reply) → Grows w new n → (view_record new).replies ≡ (view_record w).replies ++ reply ∷ [] → Replies (plan_of_world w) (entries_of w.schedule w.taken) n reply
replies-grown w new n reply g h =
    replies-at (plan_of_world w) w.schedule w.taken n reply (subst (λ (v : WorldView). (view_record v).replies ≡ (view_record w).replies ++ reply ∷ []) g.1 h)

pub may_line : (w new : WorldView) (n : ℕ) (answer : Result Reply Memory) → OnOk answer (Grows w new n) → IfOk answer (λ reply. (view_record new).replies ≡ (view_record w).replies ++ reply ∷ []) → MayLine (plan_of_world w) (entries_of w.schedule w.taken) n answer
may_line w new n (Ok reply) ok told = (entries-lined w.schedule w.taken, replies-grown w new n reply ok told)
may_line w new n (Err e) ok told = (entries-lined w.schedule w.taken, tt)

pub may_begin : (w new : WorldView) (n : ℕ) (answer : Result Begun Memory) → OnOk answer (Grows w new n) → IfOk answer (λ begun. (view_record new).replies ≡ (view_record w).replies ++ begun_reply begun ∷ []) → IfOk answer (λ begun. HandsOut new n begun) → MayBegin (plan_of_world w) (entries_of w.schedule w.taken) n answer
may_begin w new n (Ok begun) ok told out = (
  entries-lined w.schedule w.taken,
  (
    replies-grown w new n (begun_reply begun) ok told,
    subst (λ (l : List ℕ). HandsOut (record w { taken = l ++ n ∷ []; spent = false }) n begun) (sym (numbers-entries w.schedule w.taken))
        (spent-apart w n begun (subst (λ (v : WorldView). HandsOut v n begun) ok.1 out)),
  ),
)
  where
    spent-apart : (w : WorldView) (n : ℕ) (begun : Begun) → HandsOut (record w { taken = w.taken ++ n ∷ [] }) n begun → HandsOut (record w { taken = w.taken ++ n ∷ []; spent = false }) n begun
    spent-apart w n (Begun.Job job) h = h
    spent-apart w n Begun.Idle h = h
    spent-apart w n Begun.Busy h = h
may_begin w new n (Err e) ok told out = (entries-lined w.schedule w.taken, tt)

pub may_end : (w : WorldView) (n : ℕ) (finished : Option Finished) → LawfulEnd (plan_of_world w) (entries_of w.schedule w.taken) n finished → IsEndWith w n finished
may_end w n finished h = subst (λ (l : List ℕ). IsEndWith (record w { taken = l }) n finished) (numbers-entries w.schedule w.taken) (h (entries-lined w.schedule w.taken))

-- What the pass has seen.
module _ (plan : WorldView) (lanes : ℕ) (seen new : List Entry) (n : ℕ) (l : List Entry) (f : Follows seen lanes l) (lined : IsLined plan.schedule l) where
  on : GoesOn plan.schedule lanes (numbers_of seen) (numbers_of l)
  on = goes_on plan.schedule lanes seen l lined f

  same-err : IsShareable plan → new ≡ l → SameJobs plan lanes (numbers_of seen) (numbers_of new)
  same-err s is = same_jobs plan lanes (numbers_of seen) (numbers_of new) s (subst (λ (k : List Entry). GoesOn plan.schedule lanes (numbers_of seen) (numbers_of k)) (sym is) on)

  module _ {A : Type 0} where
    abbrev After : Result A Memory → Type 0
    After answer = new ≡ list_after (is_ok answer) l (entry_of plan.schedule n)

    pub on_lined : (answer : Result A Memory) → After answer → IsLined plan.schedule new
    on_lined answer is = subst (IsLined plan.schedule) (sym is) (lined-after plan.schedule (is_ok answer) l n lined)

    pub on_ok : (answer : Result A Memory) → After answer → OnOk answer ((history : List ℕ) × GoesOn plan.schedule lanes (numbers_of seen) history × (numbers_of new ≡ history ++ n ∷ []))
    on_ok (Ok a) is = (numbers_of l, on, ap numbers_of is ∙ numbers-more l (entry_of plan.schedule n))
    on_ok (Err e) is = tt

    pub on_err : (answer : Result A Memory) → After answer → OnErr answer (GoesOn plan.schedule lanes (numbers_of seen) (numbers_of new))
    on_err (Ok a) is = tt
    on_err (Err e) is = subst (λ (k : List Entry). GoesOn plan.schedule lanes (numbers_of seen) (numbers_of k)) (sym is) on

    pub on_own : (answer : Result A Memory) → After answer → IsOwn plan.schedule lanes n → OwnAfter plan.schedule answer lanes (numbers_of seen) (numbers_of new) n
    on_own (Ok a) is own = own-more plan.schedule lanes n (numbers_of seen) (numbers_of l) (numbers_of new) own on (ap numbers_of is ∙ numbers-more l (entry_of plan.schedule n))
    on_own (Err e) is own = own-same plan.schedule lanes (numbers_of seen) (numbers_of new) (subst (λ (k : List Entry). GoesOn plan.schedule lanes (numbers_of seen) (numbers_of k)) (sym is) on)

    pub on_plain : (answer : Result A Memory) → After answer → IsShareable plan → IsPlainLine plan.schedule n → SameJobs plan lanes (numbers_of seen) (numbers_of new)
    on_plain (Ok a) is s p = same_plain plan lanes n (numbers_of seen) (numbers_of l) (numbers_of new) s p on (ap numbers_of is ∙ numbers-more l (entry_of plan.schedule n))
    on_plain (Err e) is s p = same-err s is

    pub on_others : (answer : Result A Memory) → After answer → IsShareable plan → SameOtherJobs plan lanes n (numbers_of seen) (numbers_of new)
    on_others (Ok a) is s = same_others plan lanes n (numbers_of seen) (numbers_of l) (numbers_of new) s on (ap numbers_of is ∙ numbers-more l (entry_of plan.schedule n))
    on_others (Err e) is s = λ t w has other. same-err s is t w has

    pub on_freed : (answer : Result A Memory) → After answer → OnOk answer ((t w : ℕ) → EndsAt plan.schedule n t w → job_after plan (numbers_of new) t w ≡ None)
    on_freed (Ok a) is = λ t w e. subst (λ (k : List ℕ). job_after plan k t w ≡ None) (sym (ap numbers_of is ∙ numbers-more l (entry_of plan.schedule n))) (freed_after plan (numbers_of l) n t w e)
    on_freed (Err e) is = tt

  last : (reply : Reply) → new ≡ l ++ entry_of plan.schedule n ∷ [] → Replies plan l n reply → LastReply plan (numbers_of new) reply
  last reply is told = ((record_after plan (numbers_of l)).replies, ap (λ (k : List ℕ). (record_after plan k).replies) (ap numbers_of is ∙ numbers-more l (entry_of plan.schedule n)) ∙ told)

  pub on_reply : (answer : Result Reply Memory) → After answer → IfOk answer (λ reply. Replies plan l n reply) → IfOk answer (LastReply plan (numbers_of new))
  on_reply (Ok reply) is told = last reply is told
  on_reply (Err e) is told = tt

  abbrev ToldBegun : Begun → Type 0
  ToldBegun begun = Replies plan l n (begun_reply begun) × HandsOut (record plan { taken = numbers_of l ++ n ∷ [] }) n begun

  pub on_begun : (answer : Result Begun Memory) → After answer → IfOk answer ToldBegun → IfOk answer (λ begun. LastReply plan (numbers_of new) (begun_reply begun))
  on_begun (Ok begun) is told = last (begun_reply begun) is told.0
  on_begun (Err e) is told = tt

  pub on_job : (answer : Result Begun Memory) → After answer → IfOk answer ToldBegun → IfOk answer (λ begun. HandsOut (record plan { taken = numbers_of new }) n begun)
  on_job (Ok begun) is told = subst (λ (k : List ℕ). HandsOut (record plan { taken = k }) n begun) (sym (ap numbers_of is ∙ numbers-more l (entry_of plan.schedule n))) told.1
  on_job (Err e) is told = tt

  pub on_no_job : (answer : Result Begun Memory) → After answer → IfOk answer ToldBegun → IsShareable plan → IsBeginLine plan.schedule n → IfOk answer (λ begun. IsNoJob begun → SameJobs plan lanes (numbers_of seen) (numbers_of new))
  on_no_job (Ok begun) is told s b = λ idle. same_idle plan lanes (numbers_of seen) (numbers_of l) (numbers_of new) n b.0 b.1 begun s on (ap numbers_of is ∙ numbers-more l (entry_of plan.schedule n)) b.2 idle told.0
  on_no_job (Err e) is told s b = tt

-- A job that is held.
at-end : (t w : ℕ) (o : Option Act) → o ≡ Some (Act.End t w) → unwrap_or (option_map (works_at t w) o) false ≡ true
at-end t w o e = ap (λ (x : Option Act). unwrap_or (option_map (works_at t w) x) false) e ∙ and_from (t == t) (w == w) (eq-eqb t t refl) (eq-eqb w w refl)

at-begin : (t w : ℕ) (o : Option Act) → o ≡ Some (Act.Begin t w) → unwrap_or (option_map (works_at t w) o) false ≡ true
at-begin t w o e = ap (λ (x : Option Act). unwrap_or (option_map (works_at t w) x) false) e ∙ and_from (t == t) (w == w) (eq-eqb t t refl) (eq-eqb w w refl)

pub end_line : (schedule : List Line) (n t w : ℕ) → EndsAt schedule n t w → is_work_of schedule t w n ≡ true
end_line schedule n t w e = at-end t w (act_at schedule n) e

pub begin_line : (schedule : List Line) (n t w : ℕ) → BeginsAt schedule n t w → is_work_of schedule t w n ≡ true
begin_line schedule n t w e = at-begin t w (act_at schedule n) e

pub has_worker : (plan : WorldView) (lanes n t w : ℕ) → IsShareable plan → is_work_of plan.schedule t w n ≡ true → IsOwn plan.schedule lanes n → HasWorker plan.schedule lanes t w
has_worker plan lanes n t w s at own = λ k yes. subst (λ (lane : ℕ). bit_at lanes lane ≡ 1) (s.apart t w n k at yes) own

pub still_held : (plan : WorldView) (old new : List ℕ) (t w : ℕ) (finished : Option Finished) → SameJob plan old new t w
    → IsOfWorkerAfter plan old t w finished → IsOfWorkerAfter plan new t w finished
still_held plan old new t w None same h = same.0 ∙ h
still_held plan old new t w (Some f) same h =
    let there : job_after plan old t w ≡ Some f.name = subst (λ (v : ℕ). job_after plan old t v ≡ Some f.name) h.0 h.1.running in
    let now : job_after plan new t w ≡ Some f.name = same.0 ∙ there in (
      h.0,
      record {
        running = subst (λ (v : ℕ). job_after plan new t v ≡ Some f.name) (sym h.0) now;
        place = h.1.place;
        buffer = h.1.buffer ∙ sym (same.1 f.name there);
        effect = h.1.effect;
      },
    )

-- what an End was given for the lines seen, it may be given after any history that goes on
pub lawful_end : (plan : WorldView) (lanes n : ℕ) (seen l : List Entry) (finished : Option Finished) → IsShareable plan → IsOwn plan.schedule lanes n → IsEndWith (record plan { taken = numbers_of seen }) n finished → Follows seen lanes l → LawfulEnd plan l n finished
lawful_end plan lanes n seen l finished s own e f = λ lined.
    let has = has_worker plan lanes n e.0 e.1 s (end_line plan.schedule n e.0 e.1 e.2) own in
    (e.0, e.1, e.2, still_held plan (numbers_of seen) (numbers_of l) e.0 e.1 finished (same_jobs plan lanes (numbers_of seen) (numbers_of l) s (goes_on plan.schedule lanes seen l lined f) e.0 e.1 has) e.3)
