-- What was on the output when lines were asked for.
use Rattle.std.proofs.Common.{ℕ, zero, suc, ◌≡◌, ◌<◌, ◌≤◌, ◌+◌, ◌⊎◌, List, [], ◌∷◌, ◌++◌, length, take, drop, slice_index_or, refl, sym, ◌∙◌, ap, subst, arith, append_assoc, append-nil, length-append, All, Bool, inl, inr}
use Rattle.std.proofs.Math.ListN.{get_or-append}
use Rattle.std.proofs.Math.Seq.{take-append-add}
use Rattle.std.proofs.lemmas.List.{get_or-append-add, take-append-le}
use Rattle.std.proofs.lemmas.List.Elements.{All-nil, All-push}
use Rattle.vv_io.specs.Keys.{Keys}
use Rattle.vv_io.specs.Lines.{Seen, unseen}
use Rattle.sys_script.specs.Typed.{rounds_ended}
use Rattle.sys_live.proofs.Lines.{Texts, ended_append}
use Rattle.sys_live.specs.Order.{AsksWhile, AsksInOrder, HasShown, asks_for}
use Rattle.sys_live.specs.declared.typing.Typing.{Typing}
use Rattle.sys_live.specs.declared.typing.Typing.TheVariants.{GoesOn}

-- no line was asked for
pub none_asked : (out : Seen) (keys : Keys) → AsksWhile 0 out keys keys
none_asked out keys = record {
  outputs = [];
  noted = sym (append-nil keys.outputs);
  count_is = refl;
  same = All-nil (λ o. o ≡ out);
}

-- one more was
pub one_asked : (n : ℕ) (out : Seen) (keys keys1 keys2 : Keys) → AsksWhile n out keys keys1 → keys2.outputs ≡ keys1.outputs ++ out ∷ [] → AsksWhile (n + 1) out keys keys2
one_asked n out keys keys1 keys2 asks noted = record {
  outputs = asks.outputs ++ out ∷ [];
  noted = noted ∙ ap (λ os. os ++ out ∷ []) asks.noted ∙ append_assoc keys.outputs asks.outputs (out ∷ []);
  count_is = omega (arith, asks.count_is, length-append asks.outputs (out ∷ []));
  same = All-push (λ o. o ≡ out) asks.outputs out asks.same refl;
}

-- What was shown is the same where it is known later.
pub still_known : (cut : Bool) (known known' : Type 0) (echo echo' : List ℕ) (out out' : Seen) → (known' → known) → (known' → echo ≡ echo') → HasShown cut known echo out out' → HasShown cut known' echo' out out'
still_known cut known known' echo echo' out out' earlier same shows = record {
  echoed = shows.echoed;
  shown = shows.shown;
  exact = λ told. shows.exact (earlier told) ∙ same told;
}

-- a front of lines ends no more rounds than all of them
pub ended_within : (k : ℕ) (lines : Texts) → rounds_ended (take k lines) ≤ rounds_ended lines
ended_within zero lines = omega arith
ended_within (suc k) [] = omega arith
ended_within (suc k) ([] ∷ lines) = omega (arith, ended_within k lines)
ended_within (suc k) ((b ∷ line) ∷ lines) = ended_within k lines

pub still_in_order : (known known' : Type 0) (echo echo' : ℕ → List ℕ) (out : Seen) (typing : Typing) (n : ℕ) (lines : Texts) (keys keys' : Keys) → (known' → known) → ((j : ℕ) → j ≤ n → known' → echo j ≡ echo' j) → rounds_ended lines ≤ n
    → AsksInOrder known echo out typing lines keys keys' → AsksInOrder known' echo' out typing lines keys keys'
still_in_order known known' echo echo' out typing n lines keys keys' earlier same few asked = record {
  outputs = asked.outputs;
  noted = asked.noted;
  count_is = asked.count_is;
  each = λ k within.
      let j : ℕ = rounds_ended (take k lines) in
      let before = asked.each k within in
      (before.0, still_known before.0 known known' (echo j) (echo' j) out (slice_index_or asked.outputs k unseen) earlier (same j (omega (arith, ended_within k lines, few))) before.1);
}

-- a place is among the first n, or j behind them
front_or_back : (k n : ℕ) → (k < n) ⊎ ((j : ℕ) × (k ≡ n + j))
front_or_back k zero = inr (k, omega arith)
front_or_back zero (suc n) = inl (omega arith)
front_or_back (suc k) (suc n) = elim (front_or_back k n) [ inl low ↦ inl (omega (arith, low)) | inr more ↦ inr (more.0, omega (arith, more.1)) ]

-- no line was asked for before the first
pub none_in_order : (known : Type 0) (echo : ℕ → List ℕ) (out : Seen) (keys : Keys) → AsksInOrder known echo out GoesOn [] keys keys
none_in_order known echo out keys = record {
  outputs = [];
  noted = sym (append-nil keys.outputs);
  count_is = refl;
  each = λ k within. absurd (omega (arith, within));
}

-- Lines of the next round were asked for after those of n rounds, which were shown.
module _ (known : Type 0) (echo : ℕ → List ℕ) (out out1 : Seen) (cut : Bool) (n asks : ℕ) (typing : Typing) (typed more : Texts) (keys keys1 keys2 : Keys) (first : AsksInOrder known echo out GoesOn typed keys keys1) (shows : HasShown cut known (echo n) out out1) (ended : rounds_ended typed ≡ n) (next : AsksWhile asks out1 keys1 keys2)
    (none : (j : ℕ) → j < asks → rounds_ended (take j more) ≡ 0) where
  abbrev outputs : List Seen
  outputs = first.outputs ++ next.outputs

  abbrev Shows : ℕ → Seen → Type 0
  Shows j o = (b : Bool) × HasShown b known (echo j) out o

  each : (k : ℕ) → k < length outputs → (k < length typed) ⊎ ((j : ℕ) × (k ≡ length typed + j)) → Shows (rounds_ended (take k (typed ++ more))) (slice_index_or outputs k unseen)
  each k within (inl low) =
      let there : k < length first.outputs = omega (arith, low, first.count_is) in
      let front : take k typed ≡ take k (typed ++ more) = sym (take-append-le k typed more (omega (arith, low))) in
      subst (λ (xs : Texts). Shows (rounds_ended xs) (slice_index_or outputs k unseen)) front (subst (λ o. Shows (rounds_ended (take k typed)) o) (sym (get_or-append first.outputs next.outputs unseen k there)) (first.each k there))
  each k within (inr (j, is)) =
      let place : k ≡ length first.outputs + j = omega (arith, is, first.count_is) in
      let there : j < length next.outputs = omega (arith, within, place, length-append first.outputs next.outputs) in
      let read : slice_index_or outputs k unseen ≡ out1 = ap (λ i. slice_index_or outputs i unseen) place ∙ get_or-append-add first.outputs next.outputs j unseen ∙ next.same j unseen there in
      let lines : take k (typed ++ more) ≡ typed ++ take j more = ap (λ i. take i (typed ++ more)) is ∙ take-append-add typed more j in
      let rounds : n ≡ rounds_ended (take k (typed ++ more)) = omega (arith, ap rounds_ended lines, ended_append typed (take j more), none j (omega (arith, there, next.count_is)), ended) in
      subst (λ i. Shows i (slice_index_or outputs k unseen)) rounds (subst (λ o. Shows n o) (sym read) (cut, shows))

  pub next_in_order : length typed + asks ≡ asks_for typing (length (typed ++ more)) → AsksInOrder known echo out typing (typed ++ more) keys keys2
  next_in_order counts = record {
    outputs = outputs;
    noted = next.noted ∙ ap (λ os. os ++ next.outputs) first.noted ∙ append_assoc keys.outputs first.outputs next.outputs;
    count_is = omega (arith, length-append first.outputs next.outputs, first.count_is, next.count_is, counts);
    each = λ k within. each k within (front_or_back k (length typed));
  }
