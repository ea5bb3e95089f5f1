-- `record_at` lends one element of the array, and the table follows it, for every type of record. Assumes `Logic`.
use Rattle.std.proofs.Common.{◌≡◌, ℕ, zero, suc, ◌+◌, ◌*◌, ◌^◌, ◌<◌, ◌≤◌, List, [], ◌∷◌, length, get_or, set, sym, refl, ◌∙◌, subst, le_of_suc-le-suc, not-suc-le-zero, mul-le-mul_right, arith, length-set, w64, MutBor}
use seplogic.Ra.Ura.{Ura}
use mir.Syntax.{Args, Fn, a_type, a_number, named}
use mir.MapTy.{inst_fn}
use mir.Val.{Val, vint, vptr}
use base.Fraction.{full_share}
use base.Logic.{SProp, ent, sep, ex, guard, via, fst∗, snd∗}
use base.Fml.{Fml, Lft, GName, Share, ftrue, feq, fsep, flft, fobs, fbor}
use prog.Memory.{Memory, size, align, up}
use prog.Routine.{Routine}
use prog.Wp.{Calls, Loops, WpFn, Tables}
use types.Logic.{Logic, sem}
use contract.Lifetimes.{AllOutlive}
use contract.Monad.{Fun, fact, fact_use}
use contract.Running.{tables, tables_of}
use sound.WpLaws.{WpFn-mono}
use types.Kit.{mean, ‵, raw, ◌⊛◌, some, given, later, ◌$◌, ◌∵◌, !, qed, by, move, keep, use1, use2, use3, drop, split, split3, join, group, pick, learn, check, show, rewrite, fsplit, fsplit3, fjoin, feq_l, feq_i, suffices, frame, await, updating, now as at_once, done}
use types.SemTy.{Body as Borrowed}
use types.Mut.{open_ref}
use types.Run.{size_lit, stop, fld, addr, bin, returns, enter}
use types.ByLocal.{alloc_all, pass_all, free_all, look_at, get, through, sets}
use denote.Array.{Array}
use denote.ArrayMemory.{Array-apart, Array-whole}
use denote.Builtin.{RefMutOf, usize}
use denote.Exit.{yes, no}
use denote.Follow.{follows, lends_Part}
use denote.Index.{place, place_is, others, takes, puts, row}
use denote.Memory.{part_at, mem, shares}
use denote.Param.{layout, layouts, param, number}
use denote.Param.Laws.{Laws, param_laws}
use denote.Plain.{uint_vals, uint_Tells}
use denote.RattleType.{RattleType, owns}
use denote.Ref.{MutRef, mut_vals, mut_Tells}
use denote.Signature.{plain}
use denote.Steps.{nothing}
use denote.Struct.Loose.{Looses}
use denote.Struct.Values.{Values}
use denote.Triple.Clauses.{Clauses, Ended, closing}
use denote.Triple.Entry.{on_entry}
use denote.Triple.Spec.{Meets, triple_of}
use denote.Triple.Table.{entered}
use denote.Triple.Walked.{says, Stays, stay_dropped, walk_of, ends_at, walked, Goes-dropped, Goes-spent_ref, walk_Meets}
use borrow.Struct.Apart.{part_apart}
use borrow.Struct.Lend.{kept_field, field_apart, field_fill}
use Rattle.tables.specs.Lending.{with_cell}
use Rattle.tables.specs.declared.rows.Rows.{Rows}
use Rattle.tables.specs.contracts.rows.Rows as T
use Rattle.tables.specs.contracts.rows.Rows.record_at as F
use Rattle.tables.specs.contracts.rows.Rows.record_at.Key.{name as #self}
use Rattle.tables.proofs.rows.Rows.TheLaws.{the_loose}
use Rattle.tables.proofs.rows.Rows.record_at.Statement as stated
use Rattle.tables.proofs.rows.Rows.record_at.Code as code

hd : {X : Type 0} (xs : List X) → 0 < length xs → X
hd [] h = absurd (not-suc-le-zero h)
hd (x ∷ xs) h = x

any_default : {X : Type 0} (xs : List X) (i : ℕ) (d e : X) → i < length xs → get_or xs i d ≡ get_or xs i e
any_default [] i d e h = absurd (not-suc-le-zero h)
any_default (x ∷ xs) zero d e h = refl
any_default (x ∷ xs) (suc i) d e h = any_default xs i d e (le_of_suc-le-suc h)

asks : {M : Type 1} (𝓤 : Ura M) (P : SProp 𝓤) (φ₀ φ₁ φ₂ φ₃ : Type 0) {Q : SProp 𝓤} → (φ₂ → φ₃ → ent 𝓤 P Q) → ent 𝓤 (sep 𝓤 P (sep 𝓤 (fact 𝓤 φ₀) (sep 𝓤 (fact 𝓤 φ₁) (sep 𝓤 (fact 𝓤 φ₂) (fact 𝓤 φ₃))))) Q
asks 𝓤 P φ₀ φ₁ φ₂ φ₃ h =
    let A₃ : SProp 𝓤 = sep 𝓤 (fact 𝓤 φ₂) (fact 𝓤 φ₃) in
    let A₂ : SProp 𝓤 = sep 𝓤 (fact 𝓤 φ₁) A₃ in
    let A₁ : SProp 𝓤 = sep 𝓤 (fact 𝓤 φ₀) A₂ in
    let rest : ent 𝓤 (sep 𝓤 P A₁) A₃ = via 𝓤 A₁ (snd∗ 𝓤 P A₁) (via 𝓤 A₂ (snd∗ 𝓤 (fact 𝓤 φ₀) A₂) (snd∗ 𝓤 (fact 𝓤 φ₁) A₃)) in
    fact_use 𝓤 φ₂ (via 𝓤 A₃ rest (fst∗ 𝓤 (fact 𝓤 φ₂) (fact 𝓤 φ₃))) (λ x.
    fact_use 𝓤 φ₃ (via 𝓤 A₃ rest (snd∗ 𝓤 (fact 𝓤 φ₂) (fact 𝓤 φ₃))) (λ y. via 𝓤 P (fst∗ 𝓤 P A₁) (h x y)))

module _ (X : RattleType) (N : ℕ) where
  abbrev args : Args
  args = layouts (a_type ∷ a_number ∷ []) (X, (number N, tt))

  abbrev fn' : Fn
  fn' = inst_fn args code.function

  abbrev R : RattleType
  R = param 0 X

  -- the row that stands for the number
  abbrev Nr : RattleType
  Nr = param 1 (number N)

  abbrev S : RattleType
  S = T.the_row R Nr

  abbrev D : Type 0
  D = Rows X.Denot N

  abbrev s : ℕ
  s = size (layout X)

  -- where the array begins
  abbrev off : ℕ
  off = up (align (layout X)) zero

  abbrev ended : Ended
  ended = F.ended X (number N)

  abbrev stayed : Stays ended.signature.params ended.kept
  stayed = (stay_dropped (RefMutOf (0 ∷ []) tt (plain (λ _. S)) (λ _. tt)) no, (stay_dropped (plain (λ _. usize)) yes, tt))

module _ (X : RattleType) (N : ℕ) (L : Laws X) {M : Type 1} {𝓤 : Ura M} (𝓛 : Logic 𝓤) (κ : Lft) (q : Share) (rb ro : ℕ) (γ : GName) (h : D X N) (i : ℕ) (li : i < N) where
  open 𝓛 use {H, A}

  abbrev loose : Looses (T.the_type (R X N) (Nr X N)).parts
  loose = the_loose (R X N) (Nr X N) (param_laws 0 X L) refl

  abbrev xs : List X.Denot
  xs = h.cells

  abbrev at : ℕ
  at = i * s X N + (ro + off X N)

  abbrev put : X.Denot → D X N
  put = with_cell h i

  -- the two fields of the table
  abbrev fields : Values (T.the_type (R X N) (Nr X N)).parts
  fields = (xs, (h.count, tt))

  -- the table without its array
  abbrev Kept : SProp 𝓤
  Kept = mean 𝓛 (kept_field (T.the_type (R X N) (Nr X N)) loose 0 (off X N) M 𝓤 𝓛 fields rb ro)

  abbrev Cells : List X.Denot → Fml
  Cells ys = part_at (Array (R X N) N) full_share ys rb (ro + off X N)

  apart : ent 𝓤 (sem 𝓛 (part_at (S X N) full_share h rb ro)) (sep 𝓤 (sem 𝓛 (Cells xs)) Kept)
  apart =
      subst (λ (F : Fml). ent 𝓤 (sem 𝓛 F) (sep 𝓤 (sem 𝓛 (Cells xs)) Kept)) (sym (part_apart (T.the_type (R X N) (Nr X N)) full_share h fields refl rb ro))
      (field_apart (T.the_type (R X N) (Nr X N)) loose 0 (off X N) 𝓛 refl refl fields rb ro)

  -- back to a table at `put w`, and not at any cells: those that come back are as many as they were
  filled : (w : X.Denot) → ent 𝓤 (sep 𝓤 (sem 𝓛 (Cells (set xs i w))) Kept) (sem 𝓛 (part_at (S X N) full_share (put w) rb ro))
  filled w =
      subst (λ (F : Fml). ent 𝓤 (sep 𝓤 (sem 𝓛 (Cells (set xs i w))) Kept) (sem 𝓛 F)) (sym (part_apart (T.the_type (R X N) (Nr X N)) full_share (put w) (set xs i w, (h.count, tt)) refl rb ro))
      (field_fill (T.the_type (R X N) (Nr X N)) loose 0 (off X N) refl (λ f. f) (λ f. refl) M 𝓤 𝓛 fields (set xs i w) rb ro)

  abbrev Rest : SProp 𝓤
  Rest = sep 𝓤 (sem 𝓛 (others (shares (R X N)) full_share xs i rb (ro + off X N))) Kept

  back : length xs ≡ N → (w : X.Denot) → ent 𝓤 (sep 𝓤 (sem 𝓛 ((mem (R X N)).own_at w rb at)) Rest) (sem 𝓛 ((mem (S X N)).own_at (put w) rb ro))
  back l w =
      qed 𝓛 (‵ (part_at (R X N) full_share w rb at) ∷ ‵ (others (shares (R X N)) full_share xs i rb (ro + off X N)) ∷ raw Kept ∷ []) ∵
      rewrite ! 0 (λ (k : ℕ). ‵ (part_at (R X N) full_share w rb k)) (sym (place_is (s X N) (ro + off X N) i)) refl $
      use2 𝓛 (‵ (row (R X N) full_share (set xs i w) rb (ro + off X N))) (puts (shares (R X N)) full_share 𝓛 xs i w rb (ro + off X N) (subst (λ (k : ℕ). i < k) (sym l) li)) $
      feq_i ! ℕ (length (set xs i w)) N (length-set xs i w ∙ l) $ fjoin ! $
      use1 𝓛 (‵ (Cells (set xs i w))) (Array-whole 𝓛 (R X N) full_share N (set xs i w) rb (ro + off X N)) $
      by ! (filled w)

  abbrev Got : X.Denot → GName → SProp 𝓤
  Got x γ' = sep 𝓤 (sem 𝓛 ((MutRef (named 0) κ (R X N)).own_val (record { ref_ptr = (rb, at); ghost_name = γ'; now = x }) (vptr rb at ∷ []))) (sep 𝓤 (A.lft κ q) (sem 𝓛 (follows (S X N) (R X N) γ γ' put)))

  abbrev Lent : X.Denot × GName → SProp 𝓤
  Lent t = guard 𝓤 (t.0 ≡ get_or xs i t.0) (Got t.0 t.1)

  lends : ent 𝓤 (sep 𝓤 (A.obs γ ((S X N).coded.code h)) (sep 𝓤 (A.bor κ (Borrowed (mem (S X N)) rb ro γ)) (A.lft κ q))) (H.⇛ (ex 𝓤 Lent))
  lends =
      qed 𝓛 (‵ (fobs γ ((S X N).coded.code h)) ∷ ‵ (fbor κ (Borrowed (mem (S X N)) rb ro γ)) ∷ ‵ (flft κ q) ∷ []) ∵ updating ! $
      open_ref ! tt (mem (S X N)) {b = rb} {o = ro} $
      use1 𝓛 (‵ (Cells xs) ⊛ raw Kept) apart $ split ! $
      use1 𝓛 (‵ (fsep (feq ℕ (length xs) N) (row (R X N) full_share xs rb (ro + off X N)))) (Array-apart 𝓛 (R X N) full_share tt N xs rb (ro + off X N)) $ fsplit ! $ feq_l ! (λ l.
      let in_range : i < length xs = subst (λ (k : ℕ). i < k) (sym l) li in
      let d : X.Denot = hd xs (omega arith) in
      use1 𝓛 (‵ (part_at (R X N) full_share (get_or xs i d) rb (place (s X N) (ro + off X N) i)) ⊛ ‵ (others (shares (R X N)) full_share xs i rb (ro + off X N))) (takes (shares (R X N)) full_share 𝓛 xs i d rb (ro + off X N) in_range) $ split ! $
      rewrite ! 0 (λ (k : ℕ). ‵ (part_at (R X N) full_share (get_or xs i d) rb k)) (place_is (s X N) (ro + off X N) i) refl $
      -- [the element; the others; the rest of the table; the open borrow; obs; auth]
      move ! (3 ∷ 4 ∷ 5 ∷ []) $ group ! 6 $
      use1 𝓛 (later (some (λ (γ' : GName). raw (Got (get_or xs i d) γ'))))
      (lends_Part 𝓛 (S X N) (R X N) put (named 0) κ q rb ro rb at γ Rest (back l) ((S X N).coded.code h) ((S X N).coded.code h) (get_or xs i d)) $ await ! tt $ pick ! (λ γ'.
      at_once ! $ show ! Lent (get_or xs i d, γ') $ check ! (any_default xs i d (get_or xs i d) in_range) $ done !))

module _ (X : RattleType) (N : ℕ) (L : Laws X) {M : Type 1} {𝓤 : Ura M} (𝓛 : Logic 𝓤) (at_mem : Memory → SProp 𝓤) (run : Routine → Fun 𝓤) where
  open 𝓛 use {H, A}

  abbrev clauses : Clauses 𝓤 (ended X N)
  clauses = F.clauses X (number N) 𝓛 at_mem run

  module _ (C : Calls 𝓤 H) (Λ : Loops 𝓤 H) (κ κT κN : Lft) (q qT qN : Share) (bd : AllOutlive 3 (ended X N).signature.outlives (κ, (κT, (κN, tt)))) (rb ro : ℕ) (γ : GName) (h : D X N) (i : ℕ) where
    abbrev self : MutBor (D X N)
    self = record { ref_ptr = (rb, ro); ghost_name = γ; now = h }

    abbrev bound : (walk_of 𝓛 (ended X N) (stayed X N) clauses).Ghost
    bound = (((κ, (κT, (κN, tt))), (q, (qT, (qN, tt))), bd, (self, (i, tt)), (vptr rb ro ∷ [], (vint w64 i ∷ [], tt))), tt)

    abbrev Post : Val → SProp 𝓤
    Post = (walk_of 𝓛 (ended X N) (stayed X N) clauses).post bound

    module _ (li : i < N) where
      abbrev to : ℕ
      to = at X N L 𝓛 κ q rb ro γ h i li

      exits : (x : X.Denot) (γ' : GName) → x ≡ get_or h.cells i x → ent 𝓤 (sep 𝓤 (Got X N L 𝓛 κ q rb ro γ h i li x γ') (sep 𝓤 (A.lft κT qT) (A.lft κN qN))) (Post (vptr rb to))
      exits x γ' e =
          qed 𝓛 ((‵ ((MutRef (named 0) κ (R X N)).own_val (record { ref_ptr = (rb, to); ghost_name = γ'; now = x }) (vptr rb to ∷ [])) ⊛ ‵ (flft κ q) ⊛ ‵ (follows (S X N) (R X N) γ γ' (put X N L 𝓛 κ q rb ro γ h i li))) ∷ ‵ (flft κT qT) ∷ ‵ (flft κN qN) ∷ []) ∵
          suffices ! _ (ends_at 𝓛 (ended X N) (stayed X N) clauses bound (vptr rb to) (record { ref_ptr = (rb, to); ghost_name = γ'; now = x }) (tt, (tt, tt)) (tt, (tt, tt))) $
          split3 ! $ nothing ! $ nothing ! $ fjoin ! $ nothing ! $ fjoin ! $ join ! $
          -- [what is had of the parameters, and the result; the token; the tie; the other token]
          nothing ! $ move ! (5 ∷ 0 ∷ []) $ join ! $ move ! (4 ∷ 0 ∷ []) $ join ! $ move ! (2 ∷ 0 ∷ []) $ join ! $ join ! $ frame ! $ says ! e $ done !

      walk : i < 2 ^ 64 → size (layout (S X N)) < 2 ^ 63 → ent 𝓤 (on_entry 𝓛 (ended X N).signature (κ, (κT, (κN, tt))) (q, (qT, (qN, tt))) (self, (i, tt)) (vptr rb ro ∷ [], (vint w64 i ∷ [], tt))) (WpFn 𝓤 H C Λ (fn' X N) (vptr rb ro ∷ vint w64 i ∷ []) Post)
      walk fi room =
          let all : N * s X N < 2 ^ 63 = omega arith in
          let less : i * s X N ≤ N * s X N = mul-le-mul_right (s X N) (omega arith) in
          let once : 1 * s X N ≤ N * s X N = mul-le-mul_right (s X N) (omega arith) in
          let tiny : s X N < 2 ^ 64 = omega arith in
          let fmi : i * s X N < 2 ^ 64 = omega arith in
          qed 𝓛 ((‵ (flft κ q) ⊛ ‵ (flft κT qT) ⊛ ‵ (flft κN qN) ⊛ ‵ ftrue) ∷ ‵ (owns (MutRef (named 0) κ (S X N) ∷ usize ∷ []) (self, (i, tt)) (vptr rb ro ∷ [], (vint w64 i ∷ [], tt))) ∷ []) ∵
          enter ! C Λ (fn' X N) (vptr rb ro ∷ vint w64 i ∷ []) _ $
          alloc_all ! (λ l. pass_all ! refl ((tt, tt), ((tt, record { fits = fi }), tt)) $
          sets ! (bin ! (get ! refl) (size_lit ! (record { fits = tiny })) (record { fits = fmi })) refl (tt, record { fits = fmi }) $
          sets ! (addr ! (through ! refl (fld ! refl (stop !)))) refl (tt, tt) $
          sets ! (bin ! (get ! refl) (get ! refl) tt) refl (tt, tt) $
          sets ! (addr ! (through ! refl (stop !))) refl (tt, tt) $
          move ! (1 ∷ []) $ fsplit ! $ fsplit3 ! $ drop ! $ move ! (3 ∷ []) $ split3 ! $ move ! (2 ∷ []) $ split ! $ move ! (4 ∷ 5 ∷ 2 ∷ 3 ∷ 0 ∷ []) $
          -- [obs; the borrow; the token; the other token; ..]
          use3 𝓛 (later (some (λ (t : X.Denot × GName). given (t.0 ≡ get_or h.cells i t.0) (raw (Got X N L 𝓛 κ q rb ro γ h i li t.0 t.1))))) (lends X N L 𝓛 κ q rb ro γ h i li) $ await ! tt $ pick ! (λ t. learn ! (λ e.
          returns ! (look_at ! 0 refl) $ free_all ! refl $ keep ! (0 ∷ 1 ∷ 2 ∷ []) $ by ! (exits t.0 t.1 e))))

  meets : (𝓣 : Tables 𝓤 H) → Meets 𝓛 (ended X N).signature (WpFn 𝓤 H 𝓣.C 𝓣.Λ (fn' X N)) (closing 𝓛 (ended X N) clauses)
  meets 𝓣 =
      walk_Meets 𝓛 (ended X N) (stayed X N) (Goes-spent_ref 𝓛 3 (0 ∷ []) tt (plain (λ _. S X N)), (Goes-dropped 𝓛 3 (plain (λ _. usize)) yes (λ κs x f. refl), tt)) clauses (WpFn 𝓤 H 𝓣.C 𝓣.Λ (fn' X N)) (WpFn-mono 𝓤 H 𝓛.laws 𝓣 (fn' X N))
      (walked 𝓛 (ended X N) (stayed X N) clauses (WpFn 𝓤 H 𝓣.C 𝓣.Λ (fn' X N)) (λ κs. (mut_vals, (uint_vals w64, tt))) (λ κs. (mut_Tells (named 0) κs.0 (S X N), (uint_Tells w64, tt)))
      (λ κs qs bounds a g are. asks 𝓤 _ _ _ (size (layout (S X N)) < 2 ^ 63) (a.1.0 < N) (λ room li.
      walk 𝓣.C 𝓣.Λ κs.0 κs.1.0 κs.1.1.0 qs.0 qs.1.0 qs.1.1.0 bounds a.0.ref_ptr.0 a.0.ref_ptr.1 a.0.ghost_name a.0.now a.1.0 li are.1.0.1 room)))

pub record_at_spec : {M : Type 1} → stated.statement M
unfolding tables_of
record_at_spec 𝓤 𝓛 𝓜 𝓡 wired X N L fits =
    let A = 𝓛.A in
    let 𝓣 : Tables 𝓤 𝓛.H = tables_of 𝓤 𝓛.H 𝓜 (tables 𝓤 𝓛.H 𝓜 𝓡 𝓡.env) in
    entered 𝓤 𝓛.H (triple_of 𝓛 (ended X N).signature (F.spec X (number N) 𝓛 𝓜.mem 𝓡.returns)) 𝓣.C 𝓣.Λ (#self (args X N)) (fn' X N) (code.unfolded 𝓤 𝓛.H 𝓜 𝓡 wired (X, (number N, tt)))
    (meets X N L 𝓛 𝓜.mem 𝓡.returns 𝓣)
