-- Bodies that are written one after the other.
use Rattle.std.proofs.Common.{◌≡◌, inl, inr, ℕ, ◌+◌, ◌≤◌, max, Bool, false, not, List, [], ◌∷◌, ◌++◌, length, refl, sym, ◌∙◌, ap, subst, arith, length-append, append_assoc}
use Rattle.std.proofs.lemmas.List.{append-nil}
use Rattle.dsc_outside.specs.declared.disk.Disk.{Ghosts}
use Rattle.dsc_outside.proofs.Moments.{started, then_on, weaker}
use Rattle.gate_log.specs.declared.shape.Shape.{Shape}
use Rattle.gate_log.specs.Text.{Gives, IsLive, AllFit, after_gate, begin, cells, need_of}
use Rattle.gate_log.specs.Log.{LogTerm, IsLogOf, HasPutOn, AtAnyMoment, BeforeOrAfter, OldOrNew, PutMore, begun, capacity_in, capacity_to_put, grown}
use Rattle.gate_log.specs.Several.{GivesFront, grown_by}
use Rattle.gate_log.proofs.Cells.{length-after_gate, text_gives, text_live}
use Rattle.gate_log.proofs.Rewrites.{begun_of, begun_put}

pub cells_both : (one other : List (List ℕ)) → length (cells (one ++ other)) ≡ length (cells one) + length (cells other)
cells_both [] other = omega arith
cells_both (body ∷ one) other =
    omega (arith, cells_both one other, length-append (after_gate body) (cells (one ++ other)), length-append (after_gate body) (cells one))

pub fit_first : (largest : ℕ) (one other : List (List ℕ)) → AllFit largest (one ++ other) → AllFit largest one
fit_first largest [] other fit = tt
fit_first largest (body ∷ one) other fit = (fit.0, fit_first largest one other fit.1)

pub fit_second : (largest : ℕ) (one other : List (List ℕ)) → AllFit largest (one ++ other) → AllFit largest other
fit_second largest [] other fit = fit
fit_second largest (body ∷ one) other fit = fit_second largest one other fit.1

first_cell : (body : List ℕ) (left : List (List ℕ)) → length (cells (body ∷ left)) ≡ need_of body + length (cells left)
first_cell body left = omega (arith, length-append (after_gate body) (cells left), length-after_gate body)

module _ {D : Type 0} (d : Ghosts D) where
  -- ---- a whole state

  -- of all these bodies the first were put since a rewrite was begun, and the others are left
  pub record PutSoFar (first now : D) (old new : LogTerm) (all left : List (List ℕ)) : Type 0 where
    pub put : List (List ℕ)
    pub is : all ≡ put ++ left
    pub shape : new.shape ≡ old.shape
    pub second : new.second ≡ old.second
    pub unspent : new.spent ≡ false
    pub capacity : capacity_to_put new + length (cells put) + 1 ≡ old.shape.bank
    pub long : new.long ≤ max old.long (begin old.shape (not old.second) + old.shape.bank)
    pub of : (bodies : List (List ℕ)) → IsLogOf d first old bodies → IsLogOf d now new bodies
    pub has : HasPutOn d now new put
    pub any_moment : (bodies : List (List ℕ)) → IsLogOf d first old bodies → AtAnyMoment d first now (λ c. Gives old.shape c bodies)
    pub count : d.faults first ≤ d.faults now

  pub put_none : (disk : D) (old new : LogTerm) (all : List (List ℕ)) → ((c : List ℕ) → d.left_since disk (d.moment disk) c → d.images disk c)
      → new ≡ begun old → old.spent ≡ false → length (cells all) + 1 ≤ old.shape.bank → PutSoFar disk disk old new all all
  put_none disk old new all now is unspent fits = rw is (record {
    put = [];
    is = refl;
    shape = refl;
    second = refl;
    unspent = unspent;
    capacity = omega (arith, fits);
    long = omega arith;
    of = λ bodies of. begun_of (d.shown disk) (d.images disk) old bodies of;
    has = begun_put (d.shown disk) old (omega (arith, fits));
    any_moment = λ bodies of. started d.moment d.left_since disk (λ c. Gives old.shape c bodies) (λ c left. text_gives old.shape old.second old.closed c bodies (of.each c (now c left)));
    count = omega arith;
  })

  -- what the next put needs
  pub next_size : (first now : D) (old new : LogTerm) (all : List (List ℕ)) (body : List ℕ) (left : List (List ℕ)) → PutSoFar first now old new all (body ∷ left) → AllFit old.shape.largest all → length body ≤ new.shape.largest
  next_size first now old new all body left so_far fit =
      subst (λ (s : Shape). length body ≤ s.largest) (sym so_far.shape) (fit_second old.shape.largest so_far.put (body ∷ left) (subst (λ (l : List (List ℕ)). AllFit old.shape.largest l) so_far.is fit)).0

  pub next_capacity : (first now : D) (old new : LogTerm) (all : List (List ℕ)) (body : List ℕ) (left : List (List ℕ)) → PutSoFar first now old new all (body ∷ left) → length (cells all) + 1 ≤ old.shape.bank → need_of body ≤ capacity_to_put new
  next_capacity first now old new all body left so_far fits =
      omega (arith, fits, so_far.capacity, ap (λ (l : List (List ℕ)). length (cells l)) so_far.is, cells_both so_far.put (body ∷ left), first_cell body left)

  -- one body more
  pub put_more : (first mid now : D) (old middle new : LogTerm) (all : List (List ℕ)) (body : List ℕ) (left : List (List ℕ)) → PutSoFar first mid old middle all (body ∷ left)
      → PutMore middle body new → ((bodies : List (List ℕ)) → IsLogOf d mid middle bodies → IsLogOf d now new bodies)
      → ((put : List (List ℕ)) → HasPutOn d mid middle put → HasPutOn d now new (put ++ body ∷ []))
      → ((bodies : List (List ℕ)) → IsLogOf d mid middle bodies → AtAnyMoment d mid now (λ c. Gives middle.shape c bodies))
      → d.faults mid ≤ d.faults now → PutSoFar first now old new all left
  put_more first mid now old middle new all body left so_far done of put any count = record {
    put = so_far.put ++ body ∷ [];
    is = so_far.is ∙ sym (append_assoc so_far.put (body ∷ []) left);
    shape = done.shape ∙ so_far.shape;
    second = done.second ∙ so_far.second;
    unspent = done.spent;
    capacity = omega (arith, so_far.capacity, done.capacity, cells_both so_far.put (body ∷ []), first_cell body []);
    long = in_file;
    of = λ bodies is. of bodies (so_far.of bodies is);
    has = put so_far.put so_far.has;
    any_moment = put_moment;
    count = omega (arith, so_far.count, count);
  }
    where
      in_file : new.long ≤ max old.long (begin old.shape (not old.second) + old.shape.bank)
      in_file =
          let there : new.long ≤ max middle.long (begin old.shape (not old.second) + old.shape.bank) =
          subst (λ (s : Shape). new.long ≤ max middle.long (begin s (not old.second) + s.bank)) so_far.shape
          (subst (λ (b : Bool). new.long ≤ max middle.long (begin middle.shape (not b) + middle.shape.bank)) so_far.second done.long) in
          omega (arith, there, so_far.long)

      put_moment : (bodies : List (List ℕ)) → IsLogOf d first old bodies → AtAnyMoment d first now (λ c. Gives old.shape c bodies)
      put_moment bodies is = then_on d.moment d.left_since first mid now (λ c. Gives old.shape c bodies) _ (so_far.any_moment bodies is) (any bodies (so_far.of bodies is))
          (λ c gives. subst (λ (s : Shape). Gives s c bodies) so_far.shape gives)

  -- a put that failed
  pub put_broke : (first mid now : D) (old middle : LogTerm) (all left : List (List ℕ)) → PutSoFar first mid old middle all left
      → ((bodies : List (List ℕ)) → IsLogOf d mid middle bodies → AtAnyMoment d mid now (λ c. Gives middle.shape c bodies))
      → (bodies : List (List ℕ)) → IsLogOf d first old bodies → AtAnyMoment d first now (OldOrNew old.shape bodies all)
  put_broke first mid now old middle all left so_far any bodies is =
      then_on d.moment d.left_since first mid now (OldOrNew old.shape bodies all) _
      (weaker d.moment d.left_since first mid _ (OldOrNew old.shape bodies all) (so_far.any_moment bodies is) (λ c gives. inl gives))
      (any bodies (so_far.of bodies is)) (λ c gives. inl (subst (λ (s : Shape). Gives s c bodies) so_far.shape gives))

  -- all were put
  pub put_all : (first now : D) (old new : LogTerm) (all : List (List ℕ)) → PutSoFar first now old new all [] → HasPutOn d now new all
  put_all first now old new all so_far = subst (λ (l : List (List ℕ)). HasPutOn d now new l) (sym (so_far.is ∙ append-nil so_far.put)) so_far.has

  pub all_capacity : (first now : D) (old new : LogTerm) (all : List (List ℕ)) → PutSoFar first now old new all [] → capacity_to_put new + length (cells all) + 1 ≡ old.shape.bank
  all_capacity first now old new all so_far = omega (arith, so_far.capacity, ap (λ (l : List (List ℕ)). length (cells l)) (so_far.is ∙ append-nil so_far.put))

  -- the bank is switched
  pub switched_moment : (first mid now : D) (old middle : LogTerm) (all : List (List ℕ)) → PutSoFar first mid old middle all []
      → ((bodies put : List (List ℕ)) → IsLogOf d mid middle bodies → HasPutOn d mid middle put → AtAnyMoment d mid now (OldOrNew middle.shape bodies put))
      → (bodies : List (List ℕ)) → IsLogOf d first old bodies → AtAnyMoment d first now (OldOrNew old.shape bodies all)
  switched_moment first mid now old middle all so_far any bodies is =
      then_on d.moment d.left_since first mid now (OldOrNew old.shape bodies all) _
      (weaker d.moment d.left_since first mid _ (OldOrNew old.shape bodies all) (so_far.any_moment bodies is) (λ c gives. inl gives))
      (any bodies all (so_far.of bodies is) (put_all first mid old middle all so_far)) (λ c either. subst (λ (s : Shape). OldOrNew s bodies all c) so_far.shape either)

  -- ---- the cells of a change

  -- of all these bodies the first were appended, and the others are left
  pub record AddedSoFar (first now : D) (old new : LogTerm) (all left : List (List ℕ)) : Type 0 where
    pub added : List (List ℕ)
    pub is : all ≡ added ++ left
    pub log : grown_by old all ≡ grown_by new left
    pub shape : new.shape ≡ old.shape
    pub second : new.second ≡ old.second
    pub unspent : new.spent ≡ false
    pub capacity : length (cells left) ≤ capacity_in new
    pub of : (bodies : List (List ℕ)) → IsLogOf d first old bodies → IsLogOf d now new (bodies ++ added)
    pub any_moment : (bodies : List (List ℕ)) → IsLogOf d first old bodies → AtAnyMoment d first now (GivesFront old.shape bodies all)
    pub same_bank : (bodies : List (List ℕ)) → IsLogOf d first old bodies → AtAnyMoment d first now (IsLive old.second)
    pub count : d.faults first ≤ d.faults now

  pub added_none : (disk : D) (log : LogTerm) (all : List (List ℕ)) → ((c : List ℕ) → d.left_since disk (d.moment disk) c → d.images disk c)
      → log.spent ≡ false → length (cells all) ≤ capacity_in log → AddedSoFar disk disk log log all all
  added_none disk log all now unspent fits = record {
    added = [];
    is = refl;
    log = refl;
    shape = refl;
    second = refl;
    unspent = unspent;
    capacity = fits;
    of = λ bodies of. subst (λ (l : List (List ℕ)). IsLogOf d disk log l) (sym (append-nil bodies)) of;
    any_moment = λ bodies of. started d.moment d.left_since disk (GivesFront log.shape bodies all) (λ c left. record {
      front = [];
      rest = all;
      is = refl;
      gives = subst (λ (l : List (List ℕ)). Gives log.shape c l) (sym (append-nil bodies)) (text_gives log.shape log.second log.closed c bodies (of.each c (now c left)));
    });
    same_bank = λ bodies of. started d.moment d.left_since disk (IsLive log.second) (λ c left. text_live log.shape log.second log.closed c bodies (of.each c (now c left)));
    count = omega arith;
  }

  pub append_size : (first now : D) (old new : LogTerm) (all : List (List ℕ)) (body : List ℕ) (left : List (List ℕ)) → AddedSoFar first now old new all (body ∷ left) → AllFit old.shape.largest all → length body ≤ new.shape.largest
  append_size first now old new all body left so_far fit =
      subst (λ (s : Shape). length body ≤ s.largest) (sym so_far.shape) (fit_second old.shape.largest so_far.added (body ∷ left) (subst (λ (l : List (List ℕ)). AllFit old.shape.largest l) so_far.is fit)).0

  pub append_capacity : (first now : D) (old new : LogTerm) (all : List (List ℕ)) (body : List ℕ) (left : List (List ℕ)) → AddedSoFar first now old new all (body ∷ left) → need_of body ≤ capacity_in new
  append_capacity first now old new all body left so_far = omega (arith, so_far.capacity, first_cell body left)

  -- with the next one of the bodies or without it, of all that are appended
  front_moment : (shape : Shape) (bodies all added left : List (List ℕ)) (body : List ℕ) → all ≡ added ++ body ∷ left → (c : List ℕ) → BeforeOrAfter shape (bodies ++ added) body c → GivesFront shape bodies all c
  front_moment shape bodies all added left body is c (inl gives) = record { front = added; rest = body ∷ left; is = is; gives = gives }
  front_moment shape bodies all added left body is c (inr gives) = record {
    front = added ++ body ∷ [];
    rest = left;
    is = is ∙ sym (append_assoc added (body ∷ []) left);
    gives = subst (λ (l : List (List ℕ)). Gives shape c l) (append_assoc bodies added (body ∷ [])) gives;
  }

  -- an append, whatever it answers
  pub append_moment : (first mid now : D) (old middle : LogTerm) (all : List (List ℕ)) (body : List ℕ) (left : List (List ℕ)) → AddedSoFar first mid old middle all (body ∷ left)
      → ((bodies : List (List ℕ)) → IsLogOf d mid middle bodies → AtAnyMoment d mid now (BeforeOrAfter middle.shape bodies body))
      → (bodies : List (List ℕ)) → IsLogOf d first old bodies → AtAnyMoment d first now (GivesFront old.shape bodies all)
  append_moment first mid now old middle all body left so_far any bodies is =
      then_on d.moment d.left_since first mid now (GivesFront old.shape bodies all) _ (so_far.any_moment bodies is) (any (bodies ++ so_far.added) (so_far.of bodies is))
      (λ c either. front_moment old.shape bodies all so_far.added left body so_far.is c (subst (λ (s : Shape). BeforeOrAfter s (bodies ++ so_far.added) body c) so_far.shape either))

  pub append_bank : (first mid now : D) (old middle : LogTerm) (all left : List (List ℕ)) → AddedSoFar first mid old middle all left
      → ((bodies : List (List ℕ)) → IsLogOf d mid middle bodies → AtAnyMoment d mid now (IsLive middle.second))
      → (bodies : List (List ℕ)) → IsLogOf d first old bodies → AtAnyMoment d first now (IsLive old.second)
  append_bank first mid now old middle all left so_far any bodies is =
      then_on d.moment d.left_since first mid now (IsLive old.second) _ (so_far.same_bank bodies is) (any (bodies ++ so_far.added) (so_far.of bodies is))
      (λ c live. subst (λ (b : Bool). IsLive b c) so_far.second live)

  -- one body more
  pub added_more : (first mid now : D) (old middle new : LogTerm) (all : List (List ℕ)) (body : List ℕ) (left : List (List ℕ)) → AddedSoFar first mid old middle all (body ∷ left)
      → new ≡ grown middle (need_of body) → ((bodies : List (List ℕ)) → IsLogOf d mid middle bodies → IsLogOf d now new (bodies ++ body ∷ []))
      → ((bodies : List (List ℕ)) → IsLogOf d mid middle bodies → AtAnyMoment d mid now (BeforeOrAfter middle.shape bodies body))
      → ((bodies : List (List ℕ)) → IsLogOf d mid middle bodies → AtAnyMoment d mid now (IsLive middle.second))
      → d.faults mid ≤ d.faults now → AddedSoFar first now old new all left
  added_more first mid now old middle new all body left so_far is of any bank count = rw is (record {
    added = so_far.added ++ body ∷ [];
    is = so_far.is ∙ sym (append_assoc so_far.added (body ∷ []) left);
    log = so_far.log;
    shape = so_far.shape;
    second = so_far.second;
    unspent = refl;
    capacity = omega (arith, so_far.capacity, first_cell body left);
    of = λ bodies here. subst (λ (l : List (List ℕ)). IsLogOf d now (grown middle (need_of body)) l) (append_assoc bodies so_far.added (body ∷ []))
        (subst (λ (log : LogTerm). IsLogOf d now log ((bodies ++ so_far.added) ++ body ∷ [])) is (of (bodies ++ so_far.added) (so_far.of bodies here)));
    any_moment = append_moment first mid now old middle all body left so_far any;
    same_bank = append_bank first mid now old middle all (body ∷ left) so_far bank;
    count = omega (arith, so_far.count, count);
  })
