-- A line of an event says what its words spell, and only that.
use Rattle.std.proofs.Common.{◌≡◌, ℕ, List, [], ◌∷◌, refl, sym, ap, true, false, Some, None, Option, Ok, inl, inr}
use Rattle.std.specs.Prelude.{codes, ◌⊎◌, ◌==◌, ◌&&◌, option_map}
use Rattle.std.proofs.lemmas.Bool.{eqb-true}
use Rattle.std.proofs.lemmas.Option.{none-some, same_Some}
use Rattle.lapi_base.specs.declared.refusal.Refusal.{Refusal}
use Rattle.lapi_base.specs.declared.refusal.Refusal.TheVariants.{BadTask, BadTargetRange, BadOriginRange, BadCounter, TooLong, NoTable, BadHandler, BadUserHeader, VecCount, VecLength, StrideBelowBlock, Misaligned}
use Rattle.lapi_base.specs.declared.message.Leg.TheVariants.{Go}
use Rattle.lapi_base.specs.declared.message.MsgName.{MsgName}
use Rattle.lapi_base.specs.declared.event.Event.{Event}
use Rattle.lapi_base.specs.declared.event.Event.TheVariants.{Issue, Refuse, Enter, Pass, Copy, Head, Land, Begin, End}
use Rattle.lapi_base.specs.declared.input.LineError.TheVariants.{Syntax}
use Rattle.lapi_base.specs.Record.Names.{message}
use Rattle.lapi_base.specs.Input.Tokens.{Number, Dotted, LegWord, Stands, same_text}
use Rattle.lapi_base.specs.Input.Forms.{run}
use Rattle.lapi_base.specs.Input.Rows.{Word, Field, IsRow}
use Rattle.lapi_base.specs.Input.AuditForms.{given, refusals, refusal_among, statement_event_form, refuse_form, message_event_form, request_event_form, job_event_form, events, event_form, event_line_form}
use Rattle.lapi_base.specs.Input.AuditRows.{dotted_part, event_row, IsOfRequest}
use Rattle.lapi_base.specs.Output.TextParts.{refusal_number, refusal_name}
use Rattle.lapi_text.proofs.Parts.{same_text_is, chosen, map_some}
use Rattle.lapi_text.proofs.Bounds.{both_true}
use Rattle.lapi_text.proofs.Rules.{Spelled, Matches, Table, spelled, choose_says, err_ok}

pub record EventSays (e : Event) (words : List (List ℕ)) : Type 0 where
  pub row : IsRow (event_row e) words
  pub request : IsOfRequest e

-- ---- refusals

among_says : (whys : List Refusal) (n : ℕ) (name : List ℕ) (why : Refusal) → refusal_among whys n name ≡ Some why → (n ≡ refusal_number why) × (name ≡ refusal_name why)
among_says [] n name why e = absurd (none-some why e)
among_says (first ∷ others) n name why e = at (chosen _ _ _ _ e) (λ h. among_says others n name why h)
  where
    both : (a b : Refusal) → a ≡ b → (n ≡ refusal_number a) × (name ≡ refusal_name a) → (n ≡ refusal_number b) × (name ≡ refusal_name b)
    both a b is h = rw (← is) h

    at : (((n == refusal_number first && same_text name (refusal_name first)) ≡ true) × (Some first ≡ Some why)) ⊎ (((n == refusal_number first && same_text name (refusal_name first)) ≡ false) × (refusal_among others n name ≡ Some why))
        → (refusal_among others n name ≡ Some why → (n ≡ refusal_number why) × (name ≡ refusal_name why)) → (n ≡ refusal_number why) × (name ≡ refusal_name why)
    at (inl h) more =
        let t = both_true _ _ h.0 in
        both first why (same_Some first why h.1) (eqb-true _ _ t.0, same_text_is _ _ t.1)
    at (inr h) more = more h.1

among_read : (why : Refusal) → refusal_among refusals (refusal_number why) (refusal_name why) ≡ Some why
among_read BadTask = refl
among_read BadTargetRange = refl
among_read BadOriginRange = refl
among_read BadCounter = refl
among_read TooLong = refl
among_read NoTable = refl
among_read BadHandler = refl
among_read BadUserHeader = refl
among_read VecCount = refl
among_read VecLength = refl
among_read StrideBelowBlock = refl
among_read Misaligned = refl

given_says : {A : Type 0} (o : Option A) (x : A) (words : List (List ℕ)) → Spelled (given o) x words → (o ≡ Some x) × (words ≡ [])
given_says None x words s = absurd s
given_says (Some y) x words (is, end) = (ap (λ z. Some z) (sym is), end)

-- ---- events

statement_event : (text : List ℕ) (event : ℕ → ℕ → Event) → ((t s : ℕ) → event_row (event t s) ≡ Word text ∷ dotted_part t s ∷ []) → ((t s : ℕ) → IsOfRequest (event t s))
    → (e : Event) (words : List (List ℕ)) → Spelled (statement_event_form event) e words → EventSays e (text ∷ words)
unfolding statement_event_form
statement_event text event row request e words (at, w, r, e1, st, (is, end)) = rw (is, e1, end) (record { row = rw (row at.0 at.1) (refl, (st, tt)); request = request at.0 at.1 })

message_event : (text : List ℕ) (event : MsgName → Event) → ((m : MsgName) → event_row (event m) ≡ Word text ∷ dotted_part m.origin m.statement ∷ Field LegWord m.leg ∷ []) → ((m : MsgName) → IsOfRequest (event m))
    → (e : Event) (words : List (List ℕ)) → Spelled (message_event_form event) e words → EventSays e (text ∷ words)
unfolding message_event_form
message_event text event row request e words (at, w, r, e1, st, (leg, w2, r2, e2, st2, (is, end))) =
    let m = message at.0 at.1 leg in
    rw (is, e1, e2, end) (record { row = rw (row m) (refl, (st, (st2, tt))); request = request m })

request_event : (text : List ℕ) (event : MsgName → Event) → ((m : MsgName) → event_row (event m) ≡ Word text ∷ dotted_part m.origin m.statement ∷ []) → ((m : MsgName) → m.leg ≡ Go → IsOfRequest (event m))
    → (e : Event) (words : List (List ℕ)) → Spelled (request_event_form event) e words → EventSays e (text ∷ words)
unfolding request_event_form
request_event text event row request e words (at, w, r, e1, st, (is, end)) =
    let m = message at.0 at.1 Go in
    rw (is, e1, end) (record { row = rw (row m) (refl, (st, tt)); request = request m refl })

job_event : (text : List ℕ) (event : MsgName → ℕ → ℕ → Event) → ((m : MsgName) (t w : ℕ) → event_row (event m t w) ≡ Word text ∷ dotted_part m.origin m.statement ∷ dotted_part t w ∷ [])
    → ((m : MsgName) (t w : ℕ) → m.leg ≡ Go → IsOfRequest (event m t w)) → (e : Event) (words : List (List ℕ)) → Spelled (job_event_form event) e words → EventSays e (text ∷ words)
unfolding job_event_form
job_event text event row request e words (at, w, r, e1, st, (place, w2, r2, e2, st2, (is, end))) =
    let m = message at.0 at.1 Go in
    rw (is, e1, e2, end) (record { row = rw (row m place.0 place.1) (refl, (st, (st2, tt))); request = request m place.0 place.1 refl })

refuse_chain : (at : ℕ × ℕ) (n : ℕ) (why : Refusal) (name w w2 : List ℕ) (r r2 r3 words : List (List ℕ)) (e : Event) → words ≡ w ∷ r → r ≡ w2 ∷ r2 → r2 ≡ name ∷ r3 → r3 ≡ [] → Stands Dotted at w → Stands Number n w2
    → (n ≡ refusal_number why) × (name ≡ refusal_name why) → Refuse at.0 at.1 why ≡ e → EventSays e (codes "refuse" ∷ words)
refuse_chain at n why name w w2 r r2 r3 words e e1 e2 e3 end st st2 says is =
    rw (← is, e1, e2, e3, end) (record { row = rw (← says.0, ← says.1) (refl, (st, (st2, (refl, tt)))); request = tt })

refuse_event : (e : Event) (words : List (List ℕ)) → Spelled refuse_form e words → EventSays e (codes "refuse" ∷ words)
unfolding refuse_form
refuse_event e words (at, w, r, e1, st, (n, w2, r2, e2, st2, (name, r3, e3, sp))) =
    let g = given_says (option_map (λ why. Refuse at.0 at.1 why) (refusal_among refusals n name)) e r3 sp in
    let m = map_some (λ why. Refuse at.0 at.1 why) (refusal_among refusals n name) e g.0 in
    refuse_chain at n m.0 name w w2 r r2 r3 words e e1 e2 e3 g.1 st st2 (among_says refusals n name m.0 m.1) m.2

events_say : Table EventSays events
events_say = (
  λ e words sp. statement_event (codes "issue") (λ t s. Issue t s) (λ t s. refl) (λ t s. tt) e words sp,
  (
    λ e words sp. refuse_event e words sp,
    (
      λ e words sp. statement_event (codes "enter") (λ t s. Enter t s) (λ t s. refl) (λ t s. tt) e words sp,
      (
        λ e words sp. statement_event (codes "pass") (λ t s. Pass t s) (λ t s. refl) (λ t s. tt) e words sp,
        (
          λ e words sp. message_event (codes "copy") (λ m. Copy m) (λ m. refl) (λ m. tt) e words sp,
          (
            λ e words sp. request_event (codes "head") (λ m. Head m) (λ m. refl) (λ m h. h) e words sp,
            (
              λ e words sp. message_event (codes "land") (λ m. Land m) (λ m. refl) (λ m. tt) e words sp,
              (
                λ e words sp. job_event (codes "begin") (λ m t w. Begin m t w) (λ m t w. refl) (λ m t w h. h) e words sp,
                (λ e words sp. job_event (codes "end") (λ m t w. End m t w) (λ m t w. refl) (λ m t w h. h) e words sp, tt),
              ),
            ),
          ),
        ),
      ),
    ),
  ),
)

pub event_says : (words : List (List ℕ)) (e : Event) → run event_line_form words ≡ Ok e → EventSays e words
event_says [] e is = absurd (err_ok Syntax e is)
event_says (word ∷ words) e is = choose_says EventSays events events_say word words e (spelled (event_form word) e words is)

-- an event's row is read as the event
pub event_matches : (e : Event) → IsOfRequest e → Matches event_line_form e (event_row e)
unfolding statement_event_form refuse_form message_event_form request_event_form job_event_form
event_matches (Issue t s) r = (codes "issue", _, refl, ((t, s), _, refl, (refl, refl)))
event_matches (Refuse t s why) r =
    (codes "refuse", _, refl, ((t, s), _, refl, (refusal_number why, _, refl, (refusal_name why, _, refl, rw (among_read why) (refl, refl)))))
event_matches (Enter t s) r = (codes "enter", _, refl, ((t, s), _, refl, (refl, refl)))
event_matches (Pass t s) r = (codes "pass", _, refl, ((t, s), _, refl, (refl, refl)))
event_matches (Copy m) r = (codes "copy", _, refl, ((m.origin, m.statement), _, refl, (m.leg, _, refl, (refl, refl))))
event_matches (Head m) r = (codes "head", _, refl, ((m.origin, m.statement), _, refl, (ap (λ l. Head (message m.origin m.statement l)) r, refl)))
event_matches (Land m) r = (codes "land", _, refl, ((m.origin, m.statement), _, refl, (m.leg, _, refl, (refl, refl))))
event_matches (Begin m t w) r =
    (codes "begin", _, refl, ((m.origin, m.statement), _, refl, ((t, w), _, refl, (ap (λ l. Begin (message m.origin m.statement l) t w) r, refl))))
event_matches (End m t w) r =
    (codes "end", _, refl, ((m.origin, m.statement), _, refl, ((t, w), _, refl, (ap (λ l. End (message m.origin m.statement l) t w) r, refl))))
