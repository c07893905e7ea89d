-- The bytes of a link's numbers, as the journal grows.
use Rattle.std.proofs.Common.{◌≡◌, ℕ, ◌+◌, ◌<◌, ◌≤◌, ◌==◌, ◌&&◌, List, ◌∷◌, ◌++◌, length, Option, Some, None, refl, sym, ap, ◌∙◌, subst, ⊎_elim}
use Rattle.std.specs.Prelude.{slice_get, option_map}
use Rattle.std.proofs.lemmas.Bool.{cases_lt, cond-true, and_from}
use Rattle.std.proofs.lemmas.Option.{slice_get-map}
use Rattle.lapi_base.specs.declared.script.Script.{Script}
use Rattle.lapi_base.specs.declared.rule.Rules.{Rules}
use Rattle.lapi_base.specs.declared.message.MsgName.{MsgName}
use Rattle.lapi_base.specs.declared.event.Event.{Event}
use Rattle.lapi_base.specs.declared.event.Event.TheVariants.{Copy}
use Rattle.lapi_base.specs.Record.Atomic.{Atomic}
use Rattle.lapi_base.specs.Laws.Entries.{carried}
use Rattle.lapi_base.specs.Record.Operations.{numbers_below, sender, receiver, fragment_count, fragments}
use Rattle.lapi_base.specs.Record.Packets.{data_packet}
use Rattle.lapi_base.specs.Record.Wires.{numbered}
use Rattle.lapi_base.specs.Packet.PacketBytes as written
use Rattle.lapi_base.proofs.ListLaws.{get-after, get-past, get-some}
use Rattle.lapi_base.proofs.TestLaws.{eqb-refl}
use Rattle.lapi_laws.proofs.Out.{numbered-later, numbered-copied}
use Rattle.lapi_parts.proofs.ExactBytes.{stays}
use Rattle.lapi_task.specs.Sends.{spelled, packet_at}

module _ (script : Script) (rules : Rules) where
  packet-some : (J : List Event) (a b n : ℕ) (pair : MsgName × ℕ) → slice_get (numbered script J a b) n ≡ Some pair → packet_at script rules J a b n ≡ Some (spelled script rules J n pair)
  unfolding packet_at
  packet-some J a b n pair h = ap (option_map (spelled script rules J n)) h

  pub packet-none : (J : List Event) (a b n : ℕ) → length (numbered script J a b) ≤ n → packet_at script rules J a b n ≡ None
  unfolding packet_at
  packet-none J a b n l = ap (option_map (spelled script rules J n)) (get-past (numbered script J a b) n l)

  -- a number keeps its bytes
  pub packet-stays : (e : Event) (J : List Event) (a b n : ℕ) → Atomic script rules (e ∷ J) → n < length (numbered script J a b) → packet_at script rules (e ∷ J) a b n ≡ packet_at script rules J a b n
  packet-stays e J a b n atomic l =
      let some = get-some (numbered script J a b) n l in
      let pair = some.0 in
      packet-some (e ∷ J) a b n pair (numbered-later script e J a b n pair some.1)
      ∙ ap (λ (bytes : List ℕ). Some (written.packet (data_packet script pair.0 n pair.1 bytes))) (stays script rules e J pair.0 atomic (numbered-copied script J a b n pair some.1).0)
      ∙ sym (packet-some J a b n pair some.1)

  -- where no number is added, all do
  pub packet-same : (e : Event) (J : List Event) (a b : ℕ) → Atomic script rules (e ∷ J) → numbered script (e ∷ J) a b ≡ numbered script J a b → (n : ℕ) → packet_at script rules (e ∷ J) a b n ≡ packet_at script rules J a b n
  packet-same e J a b atomic same n =
      ⊎_elim
      (λ (lt : n < length (numbered script J a b)). packet-stays e J a b n atomic lt)
      (λ (ge : length (numbered script J a b) ≤ n). packet-none (e ∷ J) a b n (subst (λ (ps : List (MsgName × ℕ)). length ps ≤ n) (sym same) ge) ∙ sym (packet-none J a b n ge))
      (cases_lt n (length (numbered script J a b)))

  -- What a Copy adds to its link.
  pub numbered-own : (m : MsgName) (J : List Event) → numbered script (Copy m ∷ J) (sender script m) (receiver script m) ≡ numbered script J (sender script m) (receiver script m) ++ fragments script m
  unfolding numbered
  numbered-own m J = let a = sender script m in let b = receiver script m in cond-true (a == a && b == b) (numbered script J a b ++ fragments script m) (numbered script J a b) (and_from _ _ (eqb-refl a) (eqb-refl b))

  -- the bytes of fragment j of a message whose Copy this is, which has number n
  abbrev pub copied_packet : MsgName → List Event → (n j : ℕ) → List ℕ
  copied_packet m J n j = written.packet (data_packet script m n j (carried script rules (Copy m ∷ J) m))

  pub packet-new : (m : MsgName) (J : List Event) (k : ℕ) → let n = length (numbered script J (sender script m) (receiver script m)) in packet_at script rules (Copy m ∷ J) (sender script m) (receiver script m) (n + k) ≡ option_map (λ j. copied_packet m J (n + k) j) (slice_get (numbers_below (fragment_count script m)) k)
  unfolding packet_at fragments
  packet-new m J k =
      let a = sender script m in
      let b = receiver script m in
      let n = length (numbered script J a b) in
      let js = numbers_below (fragment_count script m) in
      ap (λ (ps : List (MsgName × ℕ)). option_map (spelled script rules (Copy m ∷ J) (n + k)) (slice_get ps (n + k))) (numbered-own m J)
      ∙ ap (option_map (spelled script rules (Copy m ∷ J) (n + k))) (get-after (numbered script J a b) (fragments script m) k ∙ slice_get-map (λ j. (m, j)) js k)
      ∙ twice (slice_get js k)
    where
      twice : (o : Option ℕ) → option_map (spelled script rules (Copy m ∷ J) (length (numbered script J (sender script m) (receiver script m)) + k)) (option_map (λ j. (m, j)) o) ≡ option_map (λ j. copied_packet m J (length (numbered script J (sender script m) (receiver script m)) + k) j) o
      twice None = refl
      twice (Some j) = refl
