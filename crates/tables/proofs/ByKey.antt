-- Records by a key: what a look-up answers, and what an entry or a removal leaves.
use Rattle.std.proofs.Common.{◌≡◌, ◌≢◌, ℕ, zero, suc, ◌<◌, eqb, List, [], ◌∷◌, length, get_or, set, Some, None, Ok, Err, Option, Result, MatchOption, MatchResult, refl, sym, ap, ◌∙◌, arith}
use Rattle.std.proofs.lemmas.Bool.Decides.{nat_tests}
use Rattle.std.specs.List.{insert, remove}
use Rattle.std.specs.Map.{update}
use Rattle.std.specs.Result.{result_ok}
use Rattle.tables.specs.Keys.{found, Rising, Holds, Lacks, Entered, Struck}
use Rattle.tables.proofs.Rising.{rising_set, rising_inserted, rising_removed}

module _ {R : Type 0} (key : R → ℕ) where
  -- no record before place i has the key k
  abbrev NoneBefore : List R → ℕ → ℕ → Type 0
  NoneBefore xs k i = (j : ℕ) (d : R) → j < i → key (get_or xs j d) ≢ k

  none_rest : (x : R) (xs : List R) (k i : ℕ) → NoneBefore (x ∷ xs) k (suc i) → NoneBefore xs k i
  none_rest x xs k i none j d lt = none (suc j) d (omega arith)

  -- a key that no record has is not found
  found_absent : (xs : List R) (k : ℕ) → NoneBefore xs k (length xs) → found key xs k ≡ None
  found_absent [] k none = refl
  found_absent (x ∷ xs) k none = grind (arith, nat_tests, none 0 x (omega arith), found_absent xs k (none_rest x xs k _ none))

  -- the first record that has the key is found
  found_present : (xs : List R) (k i : ℕ) (d : R) → i < length xs → key (get_or xs i d) ≡ k → NoneBefore xs k i → found key xs k ≡ Some (get_or xs i d)
  found_present [] k i d within here none = absurd (omega arith)
  found_present (x ∷ xs) k zero d within here none = grind (arith, nat_tests)
  found_present (x ∷ xs) k (suc i) d within here none =
      grind (arith, nat_tests, none 0 x (omega arith), found_present xs k i d (omega arith) here (none_rest x xs k i none))

  found_set : (xs : List R) (i : ℕ) (x : R) → i < length xs → ((d : R) → key (get_or xs i d) ≡ key x) → NoneBefore xs (key x) i → (q : ℕ) → found key (set xs i x) q ≡ update eqb (found key xs) (key x) (Some x) q
  found_set [] i x within here none q = absurd (omega arith)
  found_set (y ∷ ys) zero x within here none q = grind (arith, nat_tests, here y)
  found_set (y ∷ ys) (suc i) x within here none q =
      grind (arith, nat_tests, none 0 y (omega arith), found_set ys i x (omega arith) here (none_rest y ys (key x) i none) q)

  found_inserted : (xs : List R) (i : ℕ) (x : R) → NoneBefore xs (key x) i → (q : ℕ) → found key (insert xs i x) q ≡ update eqb (found key xs) (key x) (Some x) q
  found_inserted xs zero x none q = grind (arith, nat_tests)
  found_inserted [] (suc i) x none q = grind (arith, nat_tests)
  found_inserted (y ∷ ys) (suc i) x none q = grind (arith, nat_tests, none 0 y (omega arith), found_inserted ys i x (none_rest y ys (key x) i none) q)

  -- and no record after it has the key
  found_removed : (xs : List R) (k i : ℕ) → i < length xs → ((d : R) → key (get_or xs i d) ≡ k) → NoneBefore xs k i → ((j : ℕ) (d : R) → i < j → j < length xs → key (get_or xs j d) ≢ k) → (q : ℕ) → found key (remove xs i) q ≡ update eqb (found key xs) k None q
  found_removed [] k i within here none over q = absurd (omega arith)
  found_removed (y ∷ ys) k zero within here none over q =
      grind (arith, nat_tests, here y, found_absent ys k (λ j d lt. over (suc j) d (omega arith) (omega arith)))
  found_removed (y ∷ ys) k (suc i) within here none over q =
      grind (arith, nat_tests, none 0 y (omega arith), found_removed ys k i (omega arith) here (none_rest y ys k i none) (λ j d lt h. over (suc j) d (omega arith) (omega arith)) q)

-- a list with a place has a record
some_record : {R : Type 0} {i : ℕ} (xs : List R) → i < length xs → (R → ⊥) → ⊥
some_record [] within void = omega arith
some_record (x ∷ xs) within void = void x

module _ {R : Type 0} (key : R → ℕ) (xs : List R) (up : Rising key xs) (k i : ℕ) (has : Holds key xs k i) where
  -- keys rise, so no record before or after has the key too
  before : NoneBefore key xs k i
  before j d lt same = omega (arith, up j i d (lt, has.within), has.here d)

  after : (j : ℕ) (d : R) → i < j → j < length xs → key (get_or xs j d) ≢ k
  after j d lt within same = omega (arith, up i j d (lt, within), has.here d)

  pub holds_found : (d : R) → found key xs k ≡ Some (get_or xs i d)
  holds_found d = found_present key xs k i d has.within (has.here d) before

  -- x is any record: xs has one
  there : (x : R) → found key xs k ≢ None
  there x none = let e = holds_found x in cc

  pub struck_out : Struck key xs (remove xs i) k
  struck_out = record {
    stood = λ none. some_record xs has.within (λ x. there x none);
    becomes = record { rising = rising_removed key xs i has.within up; finds = found_removed key xs k i has.within has.here before after };
  }

module _ {R : Type 0} (key : R → ℕ) (xs : List R) (up : Rising key xs) (n i : ℕ) (x : R) where
  pub entered_over : Holds key xs (key x) i → Entered key n xs (set xs i x) x
  entered_over has = record {
    room = λ full. there key xs up (key x) i has x full.0;
    becomes = record { rising = rising_set key xs i x up has; finds = found_set key xs i x has.within has.here (before key xs up (key x) i has) };
  }

  pub entered_new : Lacks key xs (key x) i → length xs < n → Entered key n xs (insert xs i x) x
  entered_new lack room = record {
    room = λ full. omega (arith, full.1);
    becomes = record { rising = rising_inserted key xs i x up lack; finds = found_inserted key xs i x (λ j d lt same. omega (arith, lack.before j d lt)) };
  }

pub lacks_found : {R : Type 0} (key : R → ℕ) (xs : List R) (k i : ℕ) → Lacks key xs k i → found key xs k ≡ None
lacks_found key xs k i lack = found_absent key xs k (λ j d within same. grind (arith, lack.before j d, lack.after j d))

-- what a search says where its place alone is kept
pub placed : {R : Type 0} (key : R → ℕ) (xs : List R) (k : ℕ) (r : Result ℕ ℕ) (o : Option ℕ) → MatchResult r (Holds key xs k) (Lacks key xs k) → result_ok r ≡ o → MatchOption o (found key xs k ≡ None) (Holds key xs k)
placed key xs k (Ok i) o has e = rw (← e) has
placed key xs k (Err i) o lack e = rw (← e) (lacks_found key xs k i lack)

-- what is read at the place of a key's record is what is found there, and nothing where there is none; k is the key that was sought
pub read_at : {R : Type 0} (key : R → ℕ) (xs : List R) (k q i : ℕ) (x : R) → Rising key xs → Holds key xs k i → x ≡ get_or xs i x → k ≡ q → Some x ≡ found key xs q
read_at key xs k q i x up has e same = ap Some e ∙ sym (holds_found key xs up k i has x) ∙ ap (found key xs) same

pub none_at : {R : Type 0} (key : R → ℕ) (xs : List R) (k q : ℕ) → found key xs k ≡ None → k ≡ q → None ≡ found key xs q
none_at key xs k q none same = sym none ∙ ap (found key xs) same
