-- The moves of goods and files that go and of goods that come, after one more of them, and all together.
use Rattle.std.proofs.Common.{◌≡◌, ◌↔◌, ℕ, inl, inr, true, List, [], ◌∷◌, ◌++◌, map, Bor, refl, ap, sym, subst, ◌∙◌}
use Rattle.std.proofs.lemmas.List.{map-append}
use Rattle.std.proofs.lemmas.List.Concat.{flat_map-append}
use Rattle.std.proofs.lemmas.List.Elements.{Contains-append_left}
use Rattle.std.specs.BTreeMap.{IsOrdered, Updates}
use Rattle.std.specs.List.{Contains, flat_map}
use Rattle.std.specs.Prelude.{IsTrue, MatchOption, Option, None, Some, option_copied}
use Rattle.conda_path.specs.declared.values.Good.{Good}
use Rattle.conda_goods.specs.Conflicts.{goods_of}
use Rattle.conda_goods.specs.Goods.{paths_of}
use Rattle.conda_meta.specs.declared.linked.Linked.{Linked}
use Rattle.conda_meta.specs.declared.revision.Revision.{Revision}
use Rattle.conda_changes.specs.Moves.{AreByPath, Moves, move_at}
use Rattle.conda_changes.specs.Paths.{HasJust, Texts, is_in}
use Rattle.conda_changes.specs.declared.moves.Move.{Move}
use Rattle.conda_moves.specs.Coming.{IsComing, coming, file_part, new_files, package_file, revision_file}
use Rattle.conda_moves.specs.Filling.{AreMoves, IsLeft, IsMove, IsStanding, IsTouched}
use Rattle.conda_moves.specs.Going.{AreGoing, IsGoingFile, IsGoingGood, file_paths, good_paths}
use Rattle.conda_moves.specs.Moves.{AreMovesTo, IsMoveTo, IsMoved, IsThere}
use Rattle.conda_moves.proofs.GoingLemmas.{going_file, going_good}
use Rattle.conda_moves.proofs.ListLemmas.{at_end, none_in, not_the_last}
use Rattle.conda_moves.proofs.MapLemmas.{by_text, by_path, one_put}
use Rattle.conda_moves.proofs.PathLemmas.{in_set, in_texts, not_in_set, not_in_texts}

-- ---- the same at a path

-- at the path the same goods and files go and the same goods come
record IsSame (goods goods' files files' : List (List ℕ)) (comes comes' : List Good) (path : List ℕ) : Type 0 where
  same_goods : Contains goods path ↔ Contains goods' path
  same_files : Contains files path ↔ Contains files' path
  same_paths : Contains (paths_of comes) path ↔ Contains (paths_of comes') path
  comes_too : (good : Good) → Contains comes good → Contains comes' good

itself : {P : Type 0} → P ↔ P
itself {P} = (λ p. p, λ p. p)

still : (goods goods' files files' : List (List ℕ)) (comes comes' : List Good) (path : List ℕ)
    → IsSame goods goods' files files' comes comes' path
    → ¬ IsTouched goods files comes path → ¬ IsTouched goods' files' comes' path
still goods goods' files files' comes comes' path same none (inl good) = none (inl (same.same_goods.1 good))
still goods goods' files files' comes comes' path same none (inr (inl file)) = none (inr (inl (same.same_files.1 file)))
still goods goods' files files' comes comes' path same none (inr (inr new)) = none (inr (inr (same.same_paths.1 new)))

moved : (others altered : Texts) (goods goods' files files' : List (List ℕ)) (comes comes' : List Good) (path : List ℕ) (one : Move)
    → IsSame goods goods' files files' comes comes' path → IsMove others altered goods files comes path one
    → IsMove others altered goods' files' comes' path one
moved others altered goods goods' files files' comes comes' path one same is = record {
  own = is.own;
  touched = touched is.touched;
  old = (λ old. to (is.old.0 old), λ stands. is.old.1 (from stands));
  new = new (option_copied one.new) is.new;
}
  where
    touched : IsTouched goods files comes path → IsTouched goods' files' comes' path
    touched (inl good) = inl (same.same_goods.0 good)
    touched (inr (inl file)) = inr (inl (same.same_files.0 file))
    touched (inr (inr new)) = inr (inr (same.same_paths.0 new))

    to : IsStanding others altered goods files path → IsStanding others altered goods' files' path
    to (inl good) = inl (same.same_goods.0 good.0, good.1)
    to (inr (inl file)) = inr (inl (same.same_files.0 file))
    to (inr (inr other)) = inr (inr other)

    from : IsStanding others altered goods' files' path → IsStanding others altered goods files path
    from (inl good) = inl (same.same_goods.1 good.0, good.1)
    from (inr (inl file)) = inr (inl (same.same_files.1 file))
    from (inr (inr other)) = inr (inr other)

    new : (o : Option Good) → IsComing comes path o → IsComing comes' path o
    new None none = λ has. none (same.same_paths.1 has)
    new (Some good) is = (same.comes_too good is.0, is.1)

one_more : (paths : List (List ℕ)) (key path : List ℕ) → ¬ (key ≡ path) → Contains paths path ↔ Contains (paths ++ key ∷ []) path
one_more paths key path apart = (Contains-append_left paths (key ∷ []) path, not_the_last paths key path apart)

-- ---- one more

-- a good that goes
pub one_going : (others altered : Texts) (goods : List (List ℕ)) (old new : Moves) (key : Bor (List ℕ)) (one : Move)
    → AreMoves others altered goods [] [] old
    → Updates by_text old new key (Some one) → one.path.now ≡ key.now → (IsTrue one.old ↔ IsLeft others altered key.now) → one.new ≡ None
    → AreMoves others altered (goods ++ key.now ∷ []) [] [] new
one_going others altered goods old new key one are updates own left none =
    one_put (λ path. ¬ IsTouched goods [] [] path) (λ path. ¬ IsTouched (goods ++ key.now ∷ []) [] [] path)
    (IsMove others altered goods [] [])
    (IsMove others altered (goods ++ key.now ∷ []) [] []) old new key one updates are here
    (λ path apart. still goods (goods ++ key.now ∷ []) [] [] [] [] path (same path apart))
    (λ path m apart. moved others altered goods (goods ++ key.now ∷ []) [] [] [] [] path m (same path apart))
  where
    same : (path : List ℕ) → ¬ (key.now ≡ path) → IsSame goods (goods ++ key.now ∷ []) [] [] [] [] path
    same path apart = record {
      same_goods = one_more goods key.now path apart;
      same_files = itself;
      same_paths = itself;
      comes_too = λ good has. has;
    }

    to : IsLeft others altered key.now → IsStanding others altered (goods ++ key.now ∷ []) [] key.now
    to (inl kept) = inl (at_end goods key.now, kept)
    to (inr other) = inr (inr other)

    from : IsStanding others altered (goods ++ key.now ∷ []) [] key.now → IsLeft others altered key.now
    from (inl good) = inl good.1
    from (inr (inl file)) = absurd (none_in key.now file)
    from (inr (inr other)) = inr other

    here : IsMove others altered (goods ++ key.now ∷ []) [] [] key.now one
    here = record {
      own = own;
      touched = inl (at_end goods key.now);
      old = (λ h. to (left.0 h), λ h. left.1 (from h));
      new = subst (λ (o : Option (Bor Good)). IsComing [] key.now (option_copied o)) (sym none) (none_in key.now);
    }

-- a meta file that goes
pub one_file : (others altered : Texts) (goods files : List (List ℕ)) (old new : Moves) (key : Bor (List ℕ)) (one : Move)
    → AreMoves others altered goods files [] old
    → Updates by_text old new key (Some one) → one.path.now ≡ key.now → one.old ≡ true → one.new ≡ None
    → AreMoves others altered goods (files ++ key.now ∷ []) [] new
one_file others altered goods files old new key one are updates own stands none =
    one_put (λ path. ¬ IsTouched goods files [] path) (λ path. ¬ IsTouched goods (files ++ key.now ∷ []) [] path)
    (IsMove others altered goods files [])
    (IsMove others altered goods (files ++ key.now ∷ []) []) old new key one updates are here
    (λ path apart. still goods goods files (files ++ key.now ∷ []) [] [] path (same path apart))
    (λ path m apart. moved others altered goods goods files (files ++ key.now ∷ []) [] [] path m (same path apart))
  where
    same : (path : List ℕ) → ¬ (key.now ≡ path) → IsSame goods goods files (files ++ key.now ∷ []) [] [] path
    same path apart = record {
      same_goods = itself;
      same_files = one_more files key.now path apart;
      same_paths = itself;
      comes_too = λ good has. has;
    }

    here : IsMove others altered goods (files ++ key.now ∷ []) [] key.now one
    here = record {
      own = own;
      touched = inr (inl (at_end files key.now));
      old = (λ h. inr (inl (at_end files key.now)), λ h. stands);
      new = subst (λ (o : Option (Bor Good)). IsComing [] key.now (option_copied o)) (sym none) (none_in key.now);
    }

-- a node stands where the move of the path says so, and without one where it is one of the others
pub going_stands : (others altered : Texts) (goods files : List (List ℕ)) (comes : List Good) (moves : Moves) (path : List ℕ) (one : Move)
    → AreMoves others altered goods files comes moves → move_at moves path ≡ Some one
    → IsTrue one.old ↔ IsStanding others altered goods files path
going_stands others altered goods files comes moves path one are is =
    let here : IsMove others altered goods files comes path one
    = subst (λ o. MatchOption o (¬ IsTouched goods files comes path) (IsMove others altered goods files comes path)) is (are path) in
    here.old

pub other_stands : (others altered : Texts) (goods files : List (List ℕ)) (comes : List Good) (moves : Moves) (path : List ℕ)
    → AreMoves others altered goods files comes moves → move_at moves path ≡ None
    → IsTrue (is_in others path) ↔ IsStanding others altered goods files path
other_stands others altered goods files comes moves path are is = (λ h. inr (inr h), from)
  where
    none : ¬ IsTouched goods files comes path
    none = subst (λ o. MatchOption o (¬ IsTouched goods files comes path) (IsMove others altered goods files comes path)) is (are path)

    from : IsStanding others altered goods files path → IsTrue (is_in others path)
    from (inl good) = absurd (none (inl good.0))
    from (inr (inl file)) = absurd (none (inr (inl file)))
    from (inr (inr other)) = other

-- a good that comes
pub one_coming : (others altered : Texts) (goods files : List (List ℕ)) (comes : List Good) (old new : Moves) (key : Bor (List ℕ))
    (one : Move) (good : Good)
    → AreMoves others altered goods files comes old → Updates by_text old new key (Some one) → one.path.now ≡ key.now
    → good.path ≡ key.now
    → (IsTrue one.old ↔ IsStanding others altered goods files key.now) → option_copied one.new ≡ Some good
    → AreMoves others altered goods files (comes ++ good ∷ []) new
one_coming others altered goods files comes old new key one good are updates own at stands is =
    one_put (λ path. ¬ IsTouched goods files comes path) (λ path. ¬ IsTouched goods files (comes ++ good ∷ []) path)
    (IsMove others altered goods files comes)
    (IsMove others altered goods files (comes ++ good ∷ [])) old new key one updates are here
    (λ path apart. still goods goods files files comes (comes ++ good ∷ []) path (same path apart))
    (λ path m apart. moved others altered goods goods files files comes (comes ++ good ∷ []) path m (same path apart))
  where
    paths : paths_of (comes ++ good ∷ []) ≡ paths_of comes ++ key.now ∷ []
    paths = map-append (λ (g : Good). g.path) comes (good ∷ []) ∙ ap (λ p. paths_of comes ++ p ∷ []) at

    same : (path : List ℕ) → ¬ (key.now ≡ path) → IsSame goods goods files files comes (comes ++ good ∷ []) path
    same path apart = record {
      same_goods = itself;
      same_files = itself;
      same_paths = subst (λ ps. Contains (paths_of comes) path ↔ Contains ps path) (sym paths)
          (one_more (paths_of comes) key.now path apart);
      comes_too = λ other has. Contains-append_left comes (good ∷ []) other has;
    }

    here : IsMove others altered goods files (comes ++ good ∷ []) key.now one
    here = record {
      own = own;
      touched = inr (inr (subst (λ ps. Contains ps key.now) (sym paths) (at_end (paths_of comes) key.now)));
      old = stands;
      new = subst (IsComing (comes ++ good ∷ []) key.now) (sym is) (at_end comes good, at);
    }

-- ---- all together

goods_of_files : (linked : List Linked) → goods_of (map file_part linked) ≡ map package_file linked
goods_of_files [] = refl
goods_of_files (one ∷ linked) = ap (λ goods. package_file one ∷ goods) (goods_of_files linked)

-- the goods that come are those of the packages and those of the new files
pub all_coming : (number : ℕ) (revision : Revision)
    → flat_map (λ (one : Linked). one.goods) revision.linked ++ goods_of (new_files number revision) ≡ coming number revision
all_coming number revision =
    ap (λ goods. flat_map (λ (one : Linked). one.goods) revision.linked ++ goods)
    (flat_map-append (λ part. part.goods) (map file_part revision.linked) _
    ∙ ap (λ goods. goods ++ revision_file number revision ∷ []) (goods_of_files revision.linked))

-- the moves of all that goes and comes with a revision
pub all_moves : (others_in altered_in : Texts) (others altered : List (List ℕ)) (now : List Linked) (number : ℕ) (revision : Revision)
    (going : List Linked) (comes : List Good)
    (moves : Moves) → HasJust others_in others → HasJust altered_in altered → AreGoing now revision going → comes ≡ coming number revision
    → AreMoves others_in altered_in (good_paths going) (file_paths going) comes moves
    → AreMovesTo now others altered number revision moves
all_moves others_in altered_in others altered now number revision going comes moves has_others has_altered are_going comes_is are path =
    by (move_at moves path) (are path)
  where
    good : Contains (good_paths going) path ↔ IsGoingGood now revision path
    good = going_good now revision going path are_going

    file : Contains (file_paths going) path ↔ IsGoingFile now revision path
    file = going_file now revision going path are_going

    to : IsTouched (good_paths going) (file_paths going) comes path → IsMoved now number revision path
    to (inl g) = inl (good.0 g)
    to (inr (inl f)) = inr (inl (file.0 f))
    to (inr (inr c)) = inr (inr (subst (λ goods. Contains (paths_of goods) path) comes_is c))

    from : IsMoved now number revision path → IsTouched (good_paths going) (file_paths going) comes path
    from (inl g) = inl (good.1 g)
    from (inr (inl f)) = inr (inl (file.1 f))
    from (inr (inr c)) = inr (inr (subst (λ goods. Contains (paths_of goods) path) (sym comes_is) c))

    there : IsStanding others_in altered_in (good_paths going) (file_paths going) path → IsThere now revision others altered path
    there (inl g) = inl (good.0 g.0, not_in_texts altered_in altered path has_altered g.1)
    there (inr (inl f)) = inr (inl (file.0 f))
    there (inr (inr o)) = inr (inr (in_texts others_in others path has_others o))

    back : IsThere now revision others altered path → IsStanding others_in altered_in (good_paths going) (file_paths going) path
    back (inl g) = inl (good.1 g.0, not_in_set altered_in altered path has_altered g.1)
    back (inr (inl f)) = inr (inl (file.1 f))
    back (inr (inr o)) = inr (inr (in_set others_in others path has_others o))

    by : (o : Option Move) → MatchOption o (¬ IsTouched (good_paths going) (file_paths going) comes path) (IsMove others_in altered_in
        (good_paths going) (file_paths going) comes path)
        → MatchOption o (¬ IsMoved now number revision path) (IsMoveTo now others altered number revision path)
    by None none = λ h. none (from h)
    by (Some one) is = record {
      own = is.own;
      moved = to is.touched;
      old = (λ h. there (is.old.0 h), λ h. is.old.1 (back h));
      new = subst (λ goods. IsComing goods path (option_copied one.new)) comes_is is.new;
    }

-- each of them stands at its own path
pub all_by_path : (others altered : Texts) (goods files : List (List ℕ)) (comes : List Good) (moves : Moves) → IsOrdered by_text moves
    → AreMoves others altered goods files comes moves → AreByPath moves
all_by_path others altered goods files comes moves up are =
    by_path (λ path. ¬ IsTouched goods files comes path) (IsMove others altered goods files comes) moves up are (λ path one is. is.own)
