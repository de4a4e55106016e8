-- What an operation of the arithmetic in normal form does that refers to memory once, with an index (VAX Architecture Reference
-- Manual: index mode).
use Rattle.std.specs.Prelude.{◌≡◌, ℕ, ◌*◌, ◌<◌, List, [], ◌∷◌, length, map, Option, None, Ok, slice_index}
use Rattle.vv_base.specs.declared.width.Width.{Width}
use Rattle.vv_base.specs.Width.{size_of}
use Rattle.vax_arch.specs.declared.mode.Intent.{Intent}
use Rattle.vax_arch.specs.declared.mode.Intent.TheVariants.{Read, Write}
use Rattle.vax_table.specs.Arithmetic.{alu_of}
use Rattle.vax_table.specs.Effects.{Effect, store}
use Rattle.vax_table.specs.Interaction.{Done, Space, number_at, outcome}
use Rattle.vax_table.specs.Operand.{evaluated, place, plus}
use Rattle.vax_table.specs.AllOperands.{operands_from, past_own_bytes}
use Rattle.vax_table.specs.Plan.{performed, planned}
use Rattle.vax_table.specs.Spelling.{Instruction}
use Rattle.vax_table.specs.declared.decoded.Spec.{Spec}
use Rattle.vax_table.specs.declared.effect.Store.{Store}
use Rattle.vax_table.specs.declared.evaluation.Operands.{Operands}
use Rattle.vax_table.specs.declared.meaning.Operation.{Operation}
use Rattle.vax_operand.specs.Prepared.{address_by, base_by, operand_by}
use Rattle.vax_operand.specs.declared.kind.Base.{Base}
use Rattle.vax_operand.specs.declared.prepared.Operand.{Operand}
use Rattle.vax_normal.specs.AtHand.{IsMoved}
use Rattle.vax_normal.specs.InMemory.{sourced_by, stored}
use Rattle.vax_normal.specs.Normal.{with_result}
use Rattle.vax_normal.specs.Touched.{IsClaimedAt, all_had, base_left, dest_had, from_had, left_by, value_had}
use Rattle.vax_normal.specs.declared.in_memory.Found.{Found}
use Rattle.vax_normal.specs.declared.shape.Reach.{Reach}
use Rattle.vax_normal.specs.declared.rarer_shape.Indexed.{Indexed}
use Rattle.vax_normal.specs.declared.rarer_shape.IndexedReach.{IndexedReach}

-- the address of a reference: the index counts numbers
abbrev pub indexed_address : IndexedReach → List ℕ → ℕ
indexed_address p r = plus (plus (slice_index r p.base) p.offset) (size_of p.width * slice_index r p.index)

-- this is the number there, which can be read or claimed
abbrev pub HasIndexed : Space → Intent → IndexedReach → List ℕ → ℕ → Type 0
HasIndexed s i p r m = number_at s i (size_of p.width) (indexed_address p r) ≡ Ok m

-- a result is stored where a place is claimed
abbrev pub stored_for : Intent → (at : ℕ) → Width → ℕ → List Store
stored_for Read at w v = []
stored_for Write at w v = store at w v ∷ []

abbrev pub indexed_stored : Indexed → List ℕ → ℕ → List Store
indexed_stored n r v = stored_for n.intent (indexed_address n.reach r) n.reach.width v

-- the registers after it, where this is its result
abbrev pub indexed_finished : Indexed → ℕ → List ℕ → List ℕ
indexed_finished n v r = with_result n.register n.width v (past_own_bytes n.length r)

-- what it does, where this is the number in memory
unfoldable pub indexed_done : Indexed → (number : ℕ) → List ℕ → ℕ → Effect
indexed_done n m r psw =
    let x = alu_of n.op (sourced_by n.first m m r) (sourced_by n.second m m r) n.width psw in
    record { r = indexed_finished n x.value r; psw = x.psw; writes = indexed_stored n r x.value; trap = x.trap }

-- it is what an instruction does, wherever the number can be read or claimed
abbrev pub IsIndexed : Indexed → Instruction → Type 0
IsIndexed n d = (s : Space) (r : List ℕ) (psw m : ℕ) → length r ≡ 16 → HasIndexed s n.intent n.reach r m → outcome s (planned d r psw) ≡ Ok (indexed_done n m r psw)

-- what was found of it, as an effect
abbrev pub indexed_found : Indexed → List ℕ → Found → Effect
indexed_found n r x = record { r = indexed_finished n x.value r; psw = x.psw; writes = indexed_stored n r x.value; trap = None }

-- ---- operands of which one refers to memory with an index, where this is the number there

-- a base is its register and an offset, and leaves the registers
abbrev pub IsOffsetBy : ℕ → Base → Type 0
IsOffsetBy k b = (size n : ℕ) (q : List ℕ) → (a : ℕ) × (base_by b size n q ≡ Done (place a q)) × ((i : ℕ) → plus a i ≡ plus (plus (slice_index q n) k) i) × (base_left b size n q ≡ q)

-- a reference is what a specifier says
abbrev pub IsIndexedReach : IndexedReach → Base → Width → Spec → Type 0
IsIndexedReach p b w s = (p.width ≡ w) × ((q : List ℕ) → (address_by b (size_of w) s q ≡ Done (place (indexed_address p q) q)) × (base_left b (size_of w) s.reg q ≡ q))

-- an operand refers so: it gives what is had, and leaves the registers
abbrev pub IsIndexedBy : IndexedReach → Intent → Operand → Type 0
IsIndexedBy p i x = (s : Space) (m : ℕ) (q : List ℕ) → HasIndexed s i p q m →
    (outcome s (operand_by x.kind x.form.width x.spec q) ≡ Ok (evaluated (value_had m m x.kind x.form.width x.spec q) (dest_had (indexed_address p q) x.kind x.spec.reg) q))
    × (left_by x.kind x.form.width x.spec q ≡ q)

-- one of some operands does so
abbrev pub AreIndexedBy : IndexedReach → Intent → List Operand → Type 0
AreIndexedBy p i xs = (s : Space) (k m : ℕ) (r : List ℕ) (o : Operands) → IsMoved r o.r → HasIndexed s i p r m →
    (outcome s (operands_from k (map (λ x. x.form) xs) (map (λ x. x.spec) xs) o) ≡ Ok (from_had m m (indexed_address p r) k xs o)) × IsMoved r (from_had m m (indexed_address p r) k xs o).r

-- a reference without index is claimed where one with an index is: by some registers it is at any address
abbrev pub IsClaimedLike : Intent → Option Reach → Type 0
IsClaimedLike i c = (at : ℕ) → (r : List ℕ) × IsClaimedAt c r at × ((w : Width) (v : ℕ) → stored c r w v ≡ stored_for i at w v)

-- an operation after operands does what a form says
abbrev pub IsIndexedDone : Indexed → Operation → List Operand → Type 0
IsIndexedDone n what xs =
    AreIndexedBy n.reach n.intent xs
    × ((m psw : ℕ) (r q : List ℕ) → 15 < length r → IsMoved r q → (all_had m m (indexed_address n.reach r) xs q).r ≡ past_own_bytes n.length r →
    performed what (all_had m m (indexed_address n.reach r) xs q) psw ≡ Done (indexed_done n m r psw))
