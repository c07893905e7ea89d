-- What the delivery of a packet writes and announces, by its head and the packets before it.
use Rattle.std.proofs.Common.{◌≡◌, ℕ, ◌+◌, add-zero, ◌==◌, Bool, true, false, cond, ◌&&◌, not, List, [], ◌∷◌, ◌++◌, Option, Some, None, refl, sym, ap, ◌∙◌, arith}
use Rattle.std.specs.Prelude.{is_some}
use Rattle.std.specs.List.{AllByRecursion}
use Rattle.std.proofs.lemmas.Bool.{false≢true, and_parts, cond_both, cond-true}
use Rattle.lapi_base.specs.declared.script.Script.{Script}
use Rattle.lapi_base.specs.declared.statement.Statement.{Statement}
use Rattle.lapi_base.specs.declared.statement.Statement.TheVariants.{Put, Get, Putv, Getv, Rmw, Am, Gfence}
use Rattle.lapi_base.specs.declared.rule.Rules.{Rules}
use Rattle.lapi_base.specs.declared.message.Leg.{Leg}
use Rattle.lapi_base.specs.declared.message.Leg.TheVariants.{Go, Back, Note, Echo, Join}
use Rattle.lapi_base.specs.declared.message.MsgName.{MsgName}
use Rattle.lapi_base.specs.declared.event.Event.{Event}
use Rattle.lapi_base.specs.declared.event.Event.TheVariants.{Copy, Head, Land}
use Rattle.lapi_base.specs.declared.schedule.Act.TheVariants.{Deliver}
use Rattle.lapi_base.specs.declared.packet.Packet.{Packet}
use Rattle.lapi_base.specs.declared.packet.Packet.TheVariants.{Data}
use Rattle.lapi_base.specs.declared.packet.DataPacket.{DataPacket}
use Rattle.lapi_base.specs.Record.Names.{message, leg_eq, Copied, happened}
use Rattle.lapi_base.specs.Record.Operations.{statement, target, target_pieces, origin_pieces, spans, is_rmw, address, to_by, receiver, is_am, has_back, has_leg, tgt_counter, cmpl_counter, length_by, message_length, sender}
use Rattle.lapi_base.specs.Record.Handlers.{number_of, word_bytes, buffer, has_completion, answers, answer_pieces}
use Rattle.lapi_base.specs.Record.Values.{Values, values, Write, gathered, scattered, new_word, byte_after, land_writes}
use Rattle.lapi_base.specs.Record.Counters.{is_counter, land_tells, tells, count}
use Rattle.lapi_base.specs.Record.Refusals.{option_any}
use Rattle.lapi_base.specs.Record.Packets.{head_by}
use Rattle.lapi_base.specs.Record.Wires.{Run, is_delivered, IsEntry}
use Rattle.lapi_base.specs.Record.Acts.{followed, first_delivery, after_land, note_of, hand_over, deliver_entry, deliver, perform}
use Rattle.lapi_base.specs.Record.Atomic.{Atomic}
use Rattle.lapi_base.specs.Record.WorldView.{performed, IsRecord, HoldsOfRecords}
use Rattle.lapi_base.specs.Laws.Entries.{carried}
use Rattle.lapi_base.specs.Record.Arrived.{has_some, whole_by, is_whole, assembled, count_of, comes}
use Rattle.lapi_base.specs.Record.HeadSays.{announces, lands, is_active, follows}
use Rattle.lapi_base.specs.Laws.Landing.{DeliveriesWrite, DeliveriesAnnounce}
use Rattle.lapi_base.proofs.ListLaws.{all-get}
use Rattle.lapi_base.proofs.TestLaws.{eqb-refl}
use Rattle.lapi_laws.proofs.Out.{numbered-copied}
use Rattle.lapi_laws.proofs.Backward.{there}
use Rattle.lapi_laws.proofs.Sound.{Fits}
use Rattle.lapi_parts.proofs.Records.{record-sound}
use Rattle.lapi_parts.proofs.ExactBytes.{Exact, record-exact}
use Rattle.lapi_parts.proofs.LocalQuestions.{by_points}
use Rattle.lapi_parts.proofs.WholeMessages.{assembled-bytes}
use Rattle.lapi_parts.proofs.ArrivingPackets.{head-is, length-is, counts-is, after-is, no-completion, arrivals-told}

module _ (script : Script) (rules : Rules) where
  -- ---- by the head

  -- the writes of a landing, by the statement
  by-statement : Values → MsgName → Leg → Statement → List Write
  by-statement v m Go s =
      let d = target script m.origin m.statement in
      let at = spans script d (target_pieces s) in
      cond (is_am s) (scattered (buffer script rules m) (v.bytes m)) (cond (is_rmw s) (scattered at (word_bytes (new_word s (number_of (gathered v.memory d at))))) (cond (has_back s) [] (scattered at (v.bytes m))))
  by-statement v m Back s = scattered (spans script (target script m.origin m.statement) (origin_pieces s)) (v.bytes m)
  by-statement v m Note s = []
  by-statement v m Echo s = scattered (answer_pieces script m) (v.bytes m)
  by-statement v m (Join d) s = []

  land-by-statement : (v : Values) (m : MsgName) (leg : Leg) → land_writes script rules v m leg (statement script m.origin m.statement) ≡ by-statement v m leg (statement script m.origin m.statement)
  unfolding by-statement
  land-by-statement v m Go = refl
  land-by-statement v m Back = refl
  land-by-statement v m Note = refl
  land-by-statement v m Echo = refl
  land-by-statement v m (Join d) = refl

  -- they are told by the head
  by-head : (answers : Bool) (v : Values) (m : MsgName) (leg : Leg) (s : Statement) → has_leg script answers m.origin leg s ≡ true → by-statement v m leg s ≡ lands script rules v.memory (to_by m.origin (target script m.origin m.statement) leg) m (head_by script m leg s) (length_by leg s) (v.bytes m)
  unfolding by-statement address scattered
  by-head ans v m Go (Put task to from len tgt org cmpl) h = refl
  by-head ans v m Go (Get task from to len tgt org) h = refl
  by-head ans v m Go (Putv task to from tgt org cmpl) h = refl
  by-head ans v m Go (Getv task from to tgt org) h = refl
  by-head ans v m Go (Rmw task op at in1 in2 prev org) h = refl
  by-head ans v m Go (Am task handler header from len tgt org cmpl) h = refl
  by-head ans v m Back (Get task from to len tgt org) h = refl
  by-head ans v m Back (Getv task from to tgt org) h = refl
  by-head ans v m Back (Rmw task op at in1 in2 prev org) h = refl
  by-head ans v m Note s h = refl
  by-head ans v m Echo s h = refl
  by-head ans v m (Join d) Gfence h = refl
  by-head ans v m (Join d) (Statement.Addr at) h = refl
  by-head ans v m _ s h = absurd (false≢true h)

  lands-is : (v : Values) (m : MsgName) → has_leg script (answers script rules m.origin m.statement) m.origin m.leg (statement script m.origin m.statement) ≡ true → land_writes script rules v m m.leg (statement script m.origin m.statement) ≡ lands script rules v.memory (receiver script m) m (head_by script m m.leg (statement script m.origin m.statement)) (message_length script m) (v.bytes m)
  unfolding message_length
  lands-is v m h = land-by-statement v m m.leg ∙ by-head _ v m m.leg (statement script m.origin m.statement) h

  -- a counter of the task where the message comes
  counter-here : (o : Option ℕ) (a c : ℕ) → is_counter o a a c ≡ option_any (λ d. d == c) o
  counter-here None a c = refl
  counter-here (Some d) a c = ap (λ x. x && d == c) (eqb-refl a)

  -- what the landing announces, and what follows it
  abbrev told : MsgName → Leg → Statement → (t c : ℕ) → ℕ
  told m leg s t c = cond (land_tells script rules m leg s t c) 1 0 + cond ((leg_eq leg Go && has_back s) && is_counter (tgt_counter s) (target script m.origin m.statement) t c) 1 0

  named : Option ℕ → ℕ → ℕ
  named o c = cond (option_any (λ d. d == c) o) 1 0

  put-told : (tgt : Option ℕ) (completion : Bool) (d c : ℕ) → completion ≡ false → cond ((true && not completion) && is_counter tgt d d c) 1 0 + 0 ≡ named tgt c
  unfolding named
  put-told tgt completion d c e = add-zero _ ∙ ap (λ h. cond (not h && is_counter tgt d d c) 1 0) e ∙ ap (λ b. cond b 1 0) (counter-here tgt d c)

  am-told : (tgt : Option ℕ) (completion : Bool) (d c : ℕ) → cond ((true && not completion) && is_counter tgt d d c) 1 0 + 0 ≡ named (cond completion None tgt) c
  unfolding named
  am-told tgt true d c = refl
  am-told tgt false d c = put-told tgt false d c refl

  back-told : (org : Option ℕ) (a c : ℕ) → cond (is_counter org a a c) 1 0 + 0 ≡ named org c
  unfolding named
  back-told org a c = add-zero _ ∙ ap (λ b. cond b 1 0) (counter-here org a c)

  get-told : (tgt : Option ℕ) (d c : ℕ) → 0 + cond (is_counter tgt d d c) 1 0 ≡ named tgt c
  unfolding named
  get-told tgt d c = let n = cond (is_counter tgt d d c) 1 0 in let e : 0 + n ≡ n = omega arith in e ∙ ap (λ b. cond b 1 0) (counter-here tgt d c)

  told-is : (answers : Bool) (m : MsgName) (leg : Leg) (s : Statement) (c : ℕ) → has_leg script answers m.origin leg s ≡ true → (is_am s ≡ false → has_completion script rules m.origin m.statement ≡ false) → told m leg s (to_by m.origin (target script m.origin m.statement) leg) c ≡ named (announces (head_by script m leg s) (has_completion script rules m.origin m.statement)) c
  unfolding named
  told-is ans m Go (Put task to from len tgt org cmpl) c h n = put-told tgt (has_completion script rules m.origin m.statement) (target script m.origin m.statement) c (n refl)
  told-is ans m Go (Get task from to len tgt org) c h n = get-told tgt (target script m.origin m.statement) c
  told-is ans m Go (Putv task to from tgt org cmpl) c h n = put-told tgt (has_completion script rules m.origin m.statement) (target script m.origin m.statement) c (n refl)
  told-is ans m Go (Getv task from to tgt org) c h n = get-told tgt (target script m.origin m.statement) c
  told-is ans m Go (Rmw task op at in1 in2 prev org) c h n = refl
  told-is ans m Go (Am task handler header from len tgt org cmpl) c h n = am-told tgt (has_completion script rules m.origin m.statement) (target script m.origin m.statement) c
  told-is ans m Back (Get task from to len tgt org) c h n = back-told org m.origin c
  told-is ans m Back (Getv task from to tgt org) c h n = back-told org m.origin c
  told-is ans m Back (Rmw task op at in1 in2 prev org) c h n = back-told org m.origin c
  told-is ans m Note (Put task to from len tgt org (Some k)) c h n = back-told (Some k) m.origin c
  told-is ans m Note (Putv task to from tgt org (Some k)) c h n = back-told (Some k) m.origin c
  told-is ans m Note (Am task handler header from len tgt org (Some k)) c h n = back-told (Some k) m.origin c
  told-is ans m Echo s c h n = back-told (cmpl_counter s) m.origin c
  told-is ans m (Join d) Gfence c h n = refl
  told-is ans m (Join d) (Statement.Addr at) c h n = refl
  told-is ans m _ s c h n = absurd (false≢true h)

  -- ---- memory

  -- a Head and a Copy write nothing
  abbrev IsQuiet : Event → Type 0
  IsQuiet (Head m) = Unit {0}
  IsQuiet (Copy m) = Unit {0}
  IsQuiet _ = ⊥

  quiet-memory : (e : Event) (J : List Event) → IsQuiet e → (values script rules (e ∷ J)).memory ≡ (values script rules J).memory
  unfolding values byte_after
  quiet-memory (Head m) J q = by_points _ _ (λ t. by_points _ _ (λ x. cond_both (t == 0) _ _ (λ n. n ≡ (values script rules J).memory t x) (λ _. refl) (λ _. refl)))
  quiet-memory (Copy m) J q = by_points _ _ (λ t. by_points _ _ (λ x. cond_both (t == 0) _ _ (λ n. n ≡ (values script rules J).memory t x) (λ _. refl) (λ _. refl)))
  quiet-memory _ J q = absurd q

  quiet-all : (es J : List Event) → AllByRecursion IsQuiet es → (values script rules (followed J es)).memory ≡ (values script rules J).memory
  unfolding followed
  quiet-all [] J q = refl
  quiet-all (e ∷ es) J q = quiet-all es (e ∷ J) q.1 ∙ quiet-memory e J q.0

  -- a Head changes nothing at all
  pub head-values : (m : MsgName) (J : List Event) → values script rules (Head m ∷ J) ≡ values script rules J
  unfolding values byte_after
  head-values m J =
      let e = quiet-memory (Head m) J tt in
      λ i. record { memory = e i; bytes = (values script rules J).bytes; held = (values script rules J).held }

  land-memory : (J : List Event) (m : MsgName) (x : ℕ) → (values script rules (Land m ∷ J)).memory (receiver script m) x ≡ byte_after (land_writes script rules (values script rules J) m m.leg (statement script m.origin m.statement)) x ((values script rules J).memory (receiver script m) x)
  unfolding values
  land-memory J m x = cond-true (receiver script m == receiver script m) _ _ (eqb-refl (receiver script m))

  -- the events of an first_delivery
  abbrev pub arriving : (first whole : Bool) → MsgName → List Event → List Event
  arriving first whole m after = cond first (Head m ∷ []) [] ++ cond whole (Land m ∷ after) []

  arrive-memory : (J : List Event) (first whole : Bool) (m : MsgName) (after : List Event) (x : ℕ) → AllByRecursion IsQuiet after →
      (values script rules (followed J (arriving first whole m after))).memory (receiver script m) x
      ≡ cond whole (byte_after (land_writes script rules (values script rules J) m m.leg (statement script m.origin m.statement)) x ((values script rules J).memory (receiver script m) x)) ((values script rules J).memory (receiver script m) x)
  unfolding followed
  arrive-memory J true true m after x q =
      let t = receiver script m in
      let written = λ (v : Values). byte_after (land_writes script rules v m m.leg (statement script m.origin m.statement)) x (v.memory t x) in
      ap (λ (f : ℕ → ℕ → ℕ). f t x) (quiet-all after (Land m ∷ Head m ∷ J) q) ∙ land-memory (Head m ∷ J) m x ∙ ap written (head-values m J)
  arrive-memory J true false m after x q = ap (λ (v : Values). v.memory (receiver script m) x) (head-values m J)
  arrive-memory J false true m after x q = ap (λ (f : ℕ → ℕ → ℕ). f (receiver script m) x) (quiet-all after (Land m ∷ J) q) ∙ land-memory J m x
  arrive-memory J false false m after x q = refl

  note-quiet : (m : MsgName) → AllByRecursion IsQuiet (note_of script rules m)
  note-quiet m = cond_both (is_some (cmpl_counter (statement script m.origin m.statement))) (Copy (message m.origin m.statement Note) ∷ []) [] (AllByRecursion IsQuiet) (λ _. (tt, tt)) (λ _. tt)

  after-quiet : (m : MsgName) → AllByRecursion IsQuiet (after_land script rules m)
  after-quiet m =
      let s = statement script m.origin m.statement in
      let back = Copy (message m.origin m.statement Back) ∷ [] in
      let c = has_completion script rules m.origin m.statement in
      cond_both (leg_eq m.leg Go) (cond (has_back s) back (cond c [] (note_of script rules m))) [] (AllByRecursion IsQuiet)
      (λ _. cond_both (has_back s) back (cond c [] (note_of script rules m)) (AllByRecursion IsQuiet) (λ _. (tt, tt)) (λ _. cond_both c [] (note_of script rules m) (AllByRecursion IsQuiet) (λ _. tt) (λ _. note-quiet m)))
      (λ _. tt)

  -- ---- counters

  follow-count : (K : List Event) (m : MsgName) (t c : ℕ) → count script rules (followed K (after_land script rules m)) t c ≡ count script rules K t c + cond ((leg_eq m.leg Go && has_back (statement script m.origin m.statement)) && is_counter (tgt_counter (statement script m.origin m.statement)) (target script m.origin m.statement) t c) 1 0
  unfolding followed count tells
  follow-count K m t c =
      let s = statement script m.origin m.statement in
      let X = is_counter (tgt_counter s) (target script m.origin m.statement) t c in
      let back = Copy (message m.origin m.statement Back) ∷ [] in
      let note = note_of script rules m in
      let hc = has_completion script rules m.origin m.statement in
      let old = count script rules K t c in
      elim (leg_eq m.leg Go) as (λ g. count script rules (followed K (cond g (cond (has_back s) back (cond hc [] note)) [])) t c ≡ old + cond ((g && has_back s) && X) 1 0) [
        | true ↦ elim (has_back s) as (λ h. count script rules (followed K (cond h back (cond hc [] note))) t c ≡ old + cond ((true && h) && X) 1 0) [
          | true ↦ refl
          | false ↦
              cond_both hc [] note (λ es. count script rules (followed K es) t c ≡ old + 0) (λ _. sym (add-zero old))
              (λ _. cond_both (is_some (cmpl_counter s)) (Copy (message m.origin m.statement Note) ∷ []) [] (λ es. count script rules (followed K es) t c ≡ old + 0) (λ _. refl) (λ _. sym (add-zero old)))
        ]
        | false ↦ sym (add-zero old)
      ]

  head-count : (m : MsgName) (J : List Event) (t c : ℕ) → count script rules (Head m ∷ J) t c ≡ count script rules J t c
  unfolding count tells
  head-count m J t c = add-zero (count script rules J t c)

  land-count : (m : MsgName) (J : List Event) (t c : ℕ) → count script rules (Land m ∷ J) t c ≡ count script rules J t c + cond (land_tells script rules m m.leg (statement script m.origin m.statement) t c) 1 0
  unfolding count tells
  land-count m J t c = refl

  arrive-count : (J : List Event) (first whole : Bool) (m : MsgName) (t c : ℕ) → count script rules (followed J (arriving first whole m (after_land script rules m))) t c ≡ count script rules J t c + cond whole (told m m.leg (statement script m.origin m.statement) t c) 0
  unfolding followed
  arrive-count J true true m t c =
      let n = count script rules J t c in
      let s = statement script m.origin m.statement in
      let x = cond (land_tells script rules m m.leg s t c) 1 0 in
      let y = cond ((leg_eq m.leg Go && has_back s) && is_counter (tgt_counter s) (target script m.origin m.statement) t c) 1 0 in
      let e : (n + x) + y ≡ n + (x + y) = omega arith in
      follow-count (Land m ∷ Head m ∷ J) m t c ∙ ap (λ k. k + y) (land-count m (Head m ∷ J) t c ∙ ap (λ k. k + x) (head-count m J t c)) ∙ e
  arrive-count J true false m t c = head-count m J t c ∙ sym (add-zero (count script rules J t c))
  arrive-count J false true m t c =
      let n = count script rules J t c in
      let s = statement script m.origin m.statement in
      let x = cond (land_tells script rules m m.leg s t c) 1 0 in
      let y = cond ((leg_eq m.leg Go && has_back s) && is_counter (tgt_counter s) (target script m.origin m.statement) t c) 1 0 in
      let e : (n + x) + y ≡ n + (x + y) = omega arith in
      follow-count (Land m ∷ J) m t c ∙ ap (λ k. k + y) (land-count m J t c) ∙ e
  arrive-count J false false m t c = sym (add-zero (count script rules J t c))

  -- ---- a delivery

  pub delivered : (r : Run) (a b k : ℕ) (p : DataPacket) → IsEntry r a b k (Data p) → (performed script rules r (Deliver a b k)).journal ≡ followed r.journal (cond (is_delivered r a b p.seq) [] (first_delivery script rules r a b p.name p.seq))
  unfolding performed perform deliver hand_over
  delivered r a b k p at = ap (λ o. (deliver_entry script rules r a b o).journal) at

  -- the events of a packet, by what was handed over
  comes-as : (ps : List Packet) (p : DataPacket) (after : List Event) → follows p.head (has_completion script rules p.name.origin p.name.statement) p.name ≡ after → comes script rules ps p ≡ arriving (is_active p.head && not (has_some ps p.name)) (whole_by (count_of script p.length) (Data p ∷ ps) p.name) p.name after
  unfolding comes
  comes-as ps p after e = ap (λ es. arriving (is_active p.head && not (has_some ps p.name)) (whole_by (count_of script p.length) (Data p ∷ ps) p.name) p.name es) e

  whole-is : (ps : List Packet) (p : DataPacket) → p.length ≡ message_length script p.name → is_whole script ps p.name ≡ whole_by (count_of script p.length) ps p.name
  unfolding is_whole
  whole-is ps p e = ap (λ n. whole_by n ps p.name) (counts-is script rules p.name ∙ ap (count_of script) (sym e))

  -- what a record says of a packet on a wire
  pub record Facts (r : Run) (a b : ℕ) (p : DataPacket) : Type 0 where
    pub atomic : Atomic script rules r.journal
    pub copied : happened (Copied p.name) r.journal ≡ true
    pub leg : has_leg script (answers script rules p.name.origin p.name.statement) p.name.origin p.name.leg (statement script p.name.origin p.name.statement) ≡ true
    pub sent : sender script p.name ≡ a
    pub place : receiver script p.name ≡ b
    pub head : p.head ≡ head_by script p.name p.name.leg (statement script p.name.origin p.name.statement)
    pub size : p.length ≡ message_length script p.name
    pub exact : AllByRecursion (Exact script rules r.journal) (Data p ∷ r.handed a b)
    pub events : first_delivery script rules r a b p.name p.seq ≡ arriving (is_active p.head && not (has_some (r.handed a b) p.name)) (whole_by (count_of script p.length) (Data p ∷ r.handed a b) p.name) p.name (after_land script rules p.name)

  written : (r : Run) (a b x : ℕ) (p : DataPacket) → Facts r a b p → (known : Bool) →
      (values script rules (followed r.journal (cond known [] (first_delivery script rules r a b p.name p.seq)))).memory b x
      ≡ cond (not known && whole_by (count_of script p.length) (Data p ∷ r.handed a b) p.name) (byte_after (lands script rules (values script rules r.journal).memory b p.name p.head p.length (assembled (count_of script p.length) (Data p ∷ r.handed a b) p.name)) x ((values script rules r.journal).memory b x)) ((values script rules r.journal).memory b x)
  unfolding followed
  written r a b x p f true = refl
  written r a b x p f false =
      let m = p.name in
      let v = values script rules r.journal in
      let ps = Data p ∷ r.handed a b in
      let whole = whole_by (count_of script p.length) ps m in
      let s = statement script m.origin m.statement in
      let bytes = assembled (count_of script p.length) ps m in
      let at = λ (t : ℕ). (values script rules (followed r.journal (arriving (is_active p.head && not (has_some (r.handed a b) m)) whole m (after_land script rules m)))).memory t x in
      ap (λ es. (values script rules (followed r.journal es)).memory b x) f.events
      ∙ sym (ap at f.place)
      ∙ arrive-memory r.journal (is_active p.head && not (has_some (r.handed a b) m)) whole m (after_land script rules m) x (after-quiet m)
      ∙ ap (λ (t : ℕ). cond whole (byte_after (land_writes script rules v m m.leg s) x (v.memory t x)) (v.memory t x)) f.place
      ∙ elim whole as (λ w. whole ≡ w → cond w (byte_after (land_writes script rules v m m.leg s) x (v.memory b x)) (v.memory b x) ≡ cond w (byte_after (lands script rules v.memory b m p.head p.length bytes) x (v.memory b x)) (v.memory b x)) [
        | true ↦ λ e.
            let carries : carried script rules r.journal m ≡ bytes = sym (assembled-bytes script rules r.journal m ps f.atomic f.copied f.exact (whole-is ps p f.size ∙ e)) ∙ ap (λ n. assembled n ps m) (counts-is script rules m ∙ ap (count_of script) (sym f.size)) in
            ap (λ ws. byte_after ws x (v.memory b x))
            (lands-is v m f.leg
            ∙ ap (λ (t : ℕ). lands script rules v.memory t m (head_by script m m.leg s) (message_length script m) (v.bytes m)) f.place
            ∙ ap (λ h. lands script rules v.memory b m h (message_length script m) (v.bytes m)) (sym f.head)
            ∙ ap (λ n. lands script rules v.memory b m p.head n (v.bytes m)) (sym f.size)
            ∙ ap (lands script rules v.memory b m p.head p.length) carries)
        | false ↦ λ e. refl
      ] refl

  announced : (r : Run) (a b c : ℕ) (p : DataPacket) → Facts r a b p → (known : Bool) →
      count script rules (followed r.journal (cond known [] (first_delivery script rules r a b p.name p.seq))) b c
      ≡ count script rules r.journal b c + cond ((not known && whole_by (count_of script p.length) (Data p ∷ r.handed a b) p.name) && option_any (λ d. d == c) (announces p.head (has_completion script rules p.name.origin p.name.statement))) 1 0
  unfolding followed named
  announced r a b c p f true = sym (add-zero (count script rules r.journal b c))
  announced r a b c p f false =
      let m = p.name in
      let s = statement script m.origin m.statement in
      let hc = has_completion script rules m.origin m.statement in
      let whole = whole_by (count_of script p.length) (Data p ∷ r.handed a b) m in
      let n = count script rules r.journal b c in
      let is : told m m.leg s b c ≡ named (announces p.head hc) c = sym (ap (λ (t : ℕ). told m m.leg s t c) f.place) ∙ told-is _ m m.leg s c f.leg (no-completion script rules m.origin m.statement) ∙ ap (λ h. named (announces h hc) c) (sym f.head) in
      ap (λ es. count script rules (followed r.journal es) b c) f.events
      ∙ arrive-count r.journal (is_active p.head && not (has_some (r.handed a b) m)) whole m b c
      ∙ ap (λ k. n + cond whole k 0) is
      ∙ elim whole as (λ w. n + cond w (named (announces p.head hc) c) 0 ≡ n + cond (w && option_any (λ d. d == c) (announces p.head hc)) 1 0) [ true ↦ refl | false ↦ refl ]

-- the laws
pub facts : (script : Script) (rules : Rules) (r : Run) → IsRecord script rules r → (a b k : ℕ) (p : DataPacket) → IsEntry r a b k (Data p) → Facts script rules r a b p
facts script rules r is a b k p at =
    let s = record-sound script rules r is in
    let x = record-exact script rules r is in
    let fit = all-get (Fits script rules r.journal r.handed a b) (r.wire a b) k (Data p) (s.wires a b) at in
    let exact = all-get (Exact script rules r.journal) (r.wire a b) k (Data p) (x.wires a b) at in
    let out = numbered-copied script r.journal a b p.seq (p.name, p.fragment) fit in
    let leg = (and_parts _ _ (there script rules (Copied p.name) r.journal s.atomic out.0)).1 in
    let head = head-is script rules r.journal p exact in
    record {
      atomic = s.atomic;
      copied = out.0;
      leg = leg;
      sent = out.1;
      place = out.2;
      head = head;
      size = length-is script rules r.journal p exact;
      exact = (exact, x.hands a b);
      events = arrivals-told script rules r is a b k p at ∙ comes-as script rules (r.handed a b) p (after_land script rules p.name) (ap (λ h. follows h (has_completion script rules p.name.origin p.name.statement) p.name) head ∙ sym (after-is script rules p.name leg));
    }

pub deliveries-write : HoldsOfRecords DeliveriesWrite
deliveries-write script rules r is = λ a b k x p at.
    ap (λ J. (values script rules J).memory b x) (delivered script rules r a b k p at) ∙ written script rules r a b x p (facts script rules r is a b k p at) (is_delivered r a b p.seq)

pub deliveries-announce : HoldsOfRecords DeliveriesAnnounce
deliveries-announce script rules r is = λ a b k c p at.
    ap (λ J. count script rules J b c) (delivered script rules r a b k p at) ∙ announced script rules r a b c p (facts script rules r is a b k p at) (is_delivered r a b p.seq)
