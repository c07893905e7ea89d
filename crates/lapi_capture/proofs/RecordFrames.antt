-- The frames of a record, line by line: they are whole, none clashes, and the landings in them are those of the journal.
use Rattle.std.proofs.Common.{◌≡◌, ℕ, ◌+◌, ◌<◌, ◌≤◌, true, false, ◌||◌, not, List, [], ◌∷◌, ◌++◌, length, map, Option, None, refl, sym, ap, ◌∙◌, subst, arith}
use Rattle.std.specs.List.{zip, AllByRecursion}
use Rattle.std.proofs.lemmas.List.{append-nil, length-append}
use Rattle.lapi_base.specs.declared.capture.TheConstants.{CAPTURE_MAGIC}
use Rattle.lapi_base.specs.declared.reply.Reply.{Reply}
use Rattle.lapi_base.specs.declared.rule.Rules.{Rules}
use Rattle.lapi_base.specs.declared.schedule.Act.{Act}
use Rattle.lapi_base.specs.declared.script.Script.{Script}
use Rattle.lapi_base.specs.Output.CaptureBytes.{bytes_of, frames, frames_of}
use Rattle.lapi_base.specs.Record.Acts.{reply_with}
use Rattle.lapi_base.specs.Record.Wires.{Run}
use Rattle.lapi_capture.specs.declared.part.Part.{Part}
use Rattle.lapi_capture.specs.Captures.{AreFrames, IsFrame, clashes, disagrees_with, landing_in, landings, parts_of, through, with_part}
use Rattle.lapi_capture.specs.Format.{is_addressed, part_of}
use Rattle.lapi_capture.specs.Records.{found}
use Rattle.lapi_capture.proofs.Fragments.{IsOfScript, Same}
use Rattle.lapi_capture.proofs.LandedEvents.{landed-in}
use Rattle.lapi_capture.proofs.LineFrames.{AreThere, IsThere, Longer, bytes-more, line-more}

module _ (script : Script) where
  -- what is told of the frames of so many acts
  pub record Told (acts : List Act) (r : Run) : Type 0 where
    pub whole : List (List ℕ)
    pub few : length whole ≤ length acts
    pub are : AreFrames whole
    pub count : length acts ≡ length r.replies
    pub there : AreThere r (zip acts r.replies)
    pub bytes : through whole ≡ CAPTURE_MAGIC ++ bytes_of (frames r (zip acts r.replies))
    pub parts : Same script (parts_of whole) r.handed
    pub agree : AllByRecursion (IsOfScript script) (parts_of whole)
    pub lands : map found (landings whole) ≡ landed-in script r.journal

  -- what an act makes of a record, but for packets and events
  pub record Goes (r : Run) (act : Act) (s : Run) : Type 0 where
    pub reply : Reply
    pub replies : s.replies ≡ r.replies ++ reply ∷ []
    pub longer : Longer r s
    pub there : IsThere s act reply

  -- a frame with this part may follow these
  pub record Follows (before : List (List ℕ)) (f : List ℕ) (o : Option Part) (s : Run) : Type 0 where
    pub frame : IsFrame f
    pub part : part_of f ≡ o
    pub addressed : is_addressed f ≡ true
    pub apart : disagrees_with (parts_of before) o ≡ false
    pub parts : Same script (with_part (parts_of before) o) s.handed
    pub agree : AllByRecursion (IsOfScript script) (with_part (parts_of before) o)
    pub lands : map found (landings before ++ landing_in (length before) (parts_of before) o) ≡ landed-in script s.journal

  counted : (acts : List Act) (act : Act) (r s : Run) (g : Goes r act s) → length acts ≡ length r.replies → length (acts ++ act ∷ []) ≡ length s.replies
  counted acts act r s g count = length-append acts (act ∷ []) ∙ ap (λ k. k + 1) count ∙ sym (length-append r.replies (g.reply ∷ [])) ∙ ap length (sym g.replies)

  module _ (acts : List Act) (act : Act) (r s : Run) (t : Told acts r) (g : Goes r act s) where
    -- without a frame
    pub no-frame : frames_of s act g.reply ≡ [] → Same script (parts_of t.whole) s.handed → landed-in script s.journal ≡ landed-in script r.journal → Told (acts ++ act ∷ []) s
    no-frame none same quiet =
        let more = line-more r s g.longer acts act g.reply t.count g.replies t.there g.there in
        let old = frames r (zip acts r.replies) in
        record {
          whole = t.whole;
          few = omega (arith, t.few, length-append acts (act ∷ []));
          are = t.are;
          count = counted acts act r s g t.count;
          there = more.0;
          bytes = t.bytes ∙ ap (λ fs. CAPTURE_MAGIC ++ bytes_of fs) (sym (more.1 ∙ ap (λ fs. old ++ fs) none ∙ append-nil old));
          parts = same;
          agree = t.agree;
          lands = t.lands ∙ sym quiet;
        }

    -- and with one
    pub one-frame : (f : List ℕ) (o : Option Part) → frames_of s act g.reply ≡ f ∷ [] → length acts < 20000 → Follows t.whole f o s → Told (acts ++ act ∷ []) s
    unfolding through parts_of landings AreFrames clashes
    one-frame f o one few h =
        let more = line-more r s g.longer acts act g.reply t.count g.replies t.there g.there in
        let old = frames r (zip acts r.replies) in
        let ps = parts_of t.whole in
        record {
          whole = f ∷ t.whole;
          few = omega (arith, t.few, length-append acts (act ∷ []));
          are = (
            omega (arith, t.few, few),
            h.frame,
            ap (λ b. not b || disagrees_with ps (part_of f)) h.addressed ∙ ap (disagrees_with ps) h.part ∙ h.apart,
            t.are,
          );
          count = counted acts act r s g t.count;
          there = more.0;
          bytes = ap (λ bytes. bytes ++ f) t.bytes ∙ bytes-more CAPTURE_MAGIC old f ∙ ap (λ fs. CAPTURE_MAGIC ++ bytes_of fs) (sym (more.1 ∙ ap (λ fs. old ++ fs) one));
          parts = subst (λ x. Same script (with_part ps x) s.handed) (sym h.part) h.parts;
          agree = subst (λ x. AllByRecursion (IsOfScript script) (with_part ps x)) (sym h.part) h.agree;
          lands = ap (λ x. map found (landings t.whole ++ landing_in (length t.whole) ps x)) h.part ∙ h.lands;
        }

    -- with one that tells of no fragment
    pub plain-frame : (f : List ℕ) → frames_of s act g.reply ≡ f ∷ [] → length acts < 20000 → IsFrame f → (part_of f ≡ None) × (is_addressed f ≡ true) → Same script (parts_of t.whole) s.handed → s.journal ≡ r.journal → Told (acts ++ act ∷ []) s
    plain-frame f one few is told same journal =
        one-frame f None one few (record {
          frame = is;
          part = told.0;
          addressed = told.1;
          apart = refl;
          parts = same;
          agree = t.agree;
          lands = ap (map found) (append-nil (landings t.whole)) ∙ t.lands ∙ ap (landed-in script) (sym journal);
        })

  module _ (rules : Rules) where
    -- an act that adds a reply alone
    abbrev pub stays : (r : Run) (act : Act) (reply : Reply) → IsThere (reply_with script rules r reply) act reply → Goes r act (reply_with script rules r reply)
    stays r act reply there = record { reply = reply; replies = refl; longer = λ a b. ([], sym (append-nil (r.wire a b))); there = there }
