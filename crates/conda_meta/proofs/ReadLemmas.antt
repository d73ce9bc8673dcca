-- What is read of an object is the revision or the package that it is, and each of these is read.
use Rattle.std.specs.Prelude.{◌≡◌, ◌↔◌, ℕ, ◌+◌, ◌⊎◌, Bool, true, false, ◌&&◌, ◌||◌, ◌==◌, not, is_some, if◌then◌else◌, List, [], ◌∷◌, codes, Option, None, Some, option_and_then, Ok, Err}
use Rattle.std.proofs.Common.{inl, inr, refl, ap, sym, ◌∙◌, subst}
use Rattle.std.proofs.lemmas.Bool.{eqb-true}
use Rattle.std.proofs.lemmas.Bool.Decides.{Decides-eqb}
use Rattle.std.proofs.lemmas.Slice.Eq.{slice_eq-Decides}
use Rattle.std.specs.Bool.{Decides}
use Rattle.std.specs.Cmp.Lexicographic.{slice_cmp}
use Rattle.std.specs.List.{AllByRecursion, list_any}
use Rattle.std.specs.Option.{ok_or, option_map_or}
use Rattle.std.specs.Ordering.{is_lt, nat_cmp}
use Rattle.std.specs.declared.cmp.Ordering.{Ordering}
use Rattle.std.specs.declared.cmp.Ordering.TheVariants.{Less, Equal, Greater}
use Rattle.hex.specs.Hex.{decode_sized}
use Rattle.serde_json.specs.Data.{Data, null, boolean, number, string, array, object, Items, no_items, item}
use Rattle.serde_json.specs.Find.{as_object, as_str}
use Rattle.conda_base.specs.Reads.{Read, ◌>>=◌, unless}
use Rattle.conda_base.specs.Signs.{star}
use Rattle.conda_base.specs.Texts.{Ascending, IsBeforeFirst, IsFreeOf, is_byte, is_text}
use Rattle.conda_path.specs.Dists.{IsDist, is_dist}
use Rattle.conda_path.specs.Faults.{path_read}
use Rattle.conda_path.specs.Files.{IsFileOf, cut_ending}
use Rattle.conda_path.specs.Paths.{IsRelPath, path_fault}
use Rattle.conda_path.specs.declared.values.Digest.{Digest}
use Rattle.conda_path.specs.declared.values.Good.{Good}
use Rattle.conda_path.specs.declared.values.Kind.{Kind}
use Rattle.conda_version.specs.Text.{trimmed}
use Rattle.conda_spec.specs.Grammar.{IsSpecText}
use Rattle.conda_spec.specs.Parts.{Parts}
use Rattle.conda_spec.specs.Reading.{spec_read}
use Rattle.conda_spec.specs.Text.{spec_text}
use Rattle.conda_words.specs.Values.{is_channel}
use Rattle.conda_json.specs.Fields.{each_from, or_fault}
use Rattle.conda_json.specs.Json.{inner_at, list_at, number_at, text_at}
use Rattle.conda_json.specs.Shown.{bound, cleared, found, guarded, kept, present, same, same_some}
use Rattle.conda_paths.specs.Listings.{is_meta, is_version_one}
use Rattle.conda_record.specs.Records.{record_read}
use Rattle.conda_record.specs.Rules.{HasNoGlob, IsRecord, IsWellFormed, NamesDist}
use Rattle.conda_record.specs.declared.error.RecordField.{RecordField}
use Rattle.conda_record.specs.declared.pkg_record.PkgRecord.{PkgRecord}
use Rattle.conda_goods.specs.Goods.{paths_of}
use Rattle.conda_meta.specs.Reading.{all_objects, ascend, channel_read, comes_first, digest_read, dist_at, dist_read, dists_of, file_read, files_read, good_path, good_read, goods_read, if_subdir, in_order, in_record, is_plain_form, kind_named, kind_read, linked_list, linked_read, names_path, path_field_read, paths_data_read, placed_elements, placed_goods, placed_read, prefix_of, record_at, record_in, requested_list, requested_spec, revision_of, subdir_at, subdir_at_fault, type_named, type_read, unlinked_dist, unlinked_list, where_so}
use Rattle.conda_meta.specs.Rules.{Are, IsFile, IsGood, IsGoodPath, IsGoodRevision, IsLinked, IsPackage, IsPlaced, IsPrefixRecord, IsRecordAt, IsRequested, IsRevision, IsSubdir, IsUnlinked}
use Rattle.conda_meta.specs.Texts.{kept_kind, kind_name, type_name}
use Rattle.conda_meta.specs.declared.error.MetaField.{MetaField}
use Rattle.conda_meta.specs.declared.linked.Linked.{Linked}
use Rattle.conda_meta.specs.declared.revision.Revision.{Revision}

-- the laws of the crates below
pub record Laws : Type 0 where
  pub dist : (text : List ℕ) → (is_dist text ≡ true) ↔ IsDist text
  pub ending : (file stem : List ℕ) → (cut_ending file ≡ Some stem) ↔ IsFileOf file stem
  pub path : (text : List ℕ) → (path_fault text ≡ None) ↔ IsRelPath text
  pub only : (text : List ℕ) (parts : Parts) → spec_read text ≡ Ok parts → IsSpecText text parts
  pub all : (text : List ℕ) (parts : Parts) → IsSpecText text parts → spec_read text ≡ Ok parts
  pub record_is : (value : Data) (file channel subdir : List ℕ) (pkg : PkgRecord) → (record_read value file channel subdir ≡ Ok pkg) ↔ IsRecord value file channel subdir pkg
  pub well_formed : (value : Data) (file channel subdir : List ℕ) (pkg : PkgRecord) → IsRecord value file channel subdir pkg → IsWellFormed pkg

-- ---- tests

pub same_text : (a b : List ℕ) → Decides (is_text a b) (a ≡ b)
same_text a b = slice_eq-Decides Decides-eqb a b (is_text a b) refl

so : {A : Type 0} (b : Bool) (field : MetaField) (x y : A) → where_so b field x ≡ Ok y → (b ≡ true) × (x ≡ y)
so true field x y e = (refl, same x y e)
so false field x y e = cc e

so_back : {A : Type 0} (b : Bool) (field : MetaField) (x : A) → b ≡ true → where_so b field x ≡ Ok x
so_back b field x e = ap (λ c. where_so c field x) e

denied : {A : Type 0} (b : Bool) (field : MetaField) (r : Read A MetaField) (y : A) → (if b then Err field else r) ≡ Ok y → (b ≡ false) × (r ≡ Ok y)
denied true field r y e = cc e
denied false field r y e = (refl, e)

both : (a b : Bool) → (a && b) ≡ true → (a ≡ true) × (b ≡ true)
both true b e = (refl, e)
both false b e = cc e

no_fault : {A F : Type 0} (fault : Option F) (x y : A) → unless fault x ≡ Ok y → fault ≡ None
no_fault None x y e = refl
no_fault (Some f) x y e = cc e

-- ---- lists in order

is_less : (o : Ordering) → is_lt o ≡ true → o ≡ Less
is_less Less e = refl
is_less Equal e = cc e
is_less Greater e = cc e

first_ok : (text : List ℕ) (rest : List (List ℕ)) → comes_first text rest ≡ true → IsBeforeFirst text rest
first_ok text [] e = tt
first_ok text (next ∷ rest) e = is_less (slice_cmp nat_cmp text next) e

first_back : (text : List ℕ) (rest : List (List ℕ)) → IsBeforeFirst text rest → comes_first text rest ≡ true
first_back text [] h = refl
first_back text (next ∷ rest) h = ap is_lt h

pub ascend_ok : (texts : List (List ℕ)) → ascend texts ≡ true → Ascending texts
ascend_ok [] e = tt
ascend_ok (text ∷ rest) e =
    let h = both (comes_first text rest) (ascend rest) e in
    (first_ok text rest h.0, ascend_ok rest h.1)

pub ascend_back : (texts : List (List ℕ)) → Ascending texts → ascend texts ≡ true
ascend_back [] h = refl
ascend_back (text ∷ rest) h = ap (λ b. b && ascend rest) (first_back text rest h.0) ∙ ascend_back rest h.1

-- ---- elements one by one

module _ {A : Type 0} (read : Data → Read A MetaField) (Is : Data → A → Type 0) where
  each_ok : ((value : Data) (x : A) → read value ≡ Ok x → Is value x) → (at : ℕ) (items : Items) (xs : List A)
      → each_from at (λ at. read) items ≡ Ok xs → Are Is items xs
  each_ok one at no_items xs e = subst (Are Is no_items) (same [] xs e) tt
  each_ok one at (item value rest) xs e =
      let a = bound (read value) (λ x. each_from (at + 1) (λ at. read) rest >>= (λ more. Ok (x ∷ more))) xs e in
      let b = bound (each_from (at + 1) (λ at. read) rest) (λ more. Ok (a.0 ∷ more)) xs a.2 in
      subst (Are Is (item value rest)) (same (a.0 ∷ b.0) xs b.2) (one value a.0 a.1, each_ok one (at + 1) rest b.0 b.1)

  each_back : ((value : Data) (x : A) → Is value x → read value ≡ Ok x) → (at : ℕ) (items : Items) (xs : List A)
      → Are Is items xs → each_from at (λ at. read) items ≡ Ok xs
  each_back one at no_items [] are = refl
  each_back one at no_items (x ∷ xs) are = absurd are
  each_back one at (item value rest) [] are = absurd are
  each_back one at (item value rest) (x ∷ xs) are =
      ap (λ r. r >>= (λ x. each_from (at + 1) (λ at. read) rest >>= (λ more. Ok (x ∷ more)))) (one value x are.0)
      ∙ ap (λ r. r >>= (λ more. Ok (x ∷ more))) (each_back one (at + 1) rest xs are.1)

-- four parts read one after another
four : {A B C D E F : Type 0} (a : Read A F) (b : Read B F) (c : Read C F) (d : Read D F) (made : A → B → C → D → E) (e : E)
    → (a >>= (λ x. b >>= (λ y. c >>= (λ z. d >>= (λ w. Ok (made x y z w)))))) ≡ Ok e
    → (x : A) × (y : B) × (z : C) × (w : D) × (a ≡ Ok x) × (b ≡ Ok y) × (c ≡ Ok z) × (d ≡ Ok w) × (made x y z w ≡ e)
four (Ok x) (Ok y) (Ok z) (Ok w) made e is = (x, y, z, w, refl, refl, refl, refl, same (made x y z w) e is)
four (Ok x) (Ok y) (Ok z) (Err f) made e is = cc is
four (Ok x) (Ok y) (Err f) d made e is = cc is
four (Ok x) (Err f) c d made e is = cc is
four (Err f) b c d made e is = cc is

four_back : {A B C D E F : Type 0} (a : Read A F) (b : Read B F) (c : Read C F) (d : Read D F) (made : A → B → C → D → E) (x : A) (y : B) (z : C) (w : D)
    → a ≡ Ok x → b ≡ Ok y → c ≡ Ok z → d ≡ Ok w
    → (a >>= (λ x. b >>= (λ y. c >>= (λ z. d >>= (λ w. Ok (made x y z w)))))) ≡ Ok (made x y z w)
four_back a b c d made x y z w ax by cz dw = rw ax (rw by (rw cz (rw dw refl)))

-- ---- goods

pick : (a b c : Bool) (P : Kind → Type 0) (k : Kind)
    → (if a then Some Kind.File else if b then Some Kind.Exec else if c then Some Kind.Soft else None) ≡ Some k
    → (a ≡ true → P Kind.File) → (b ≡ true → P Kind.Exec) → (c ≡ true → P Kind.Soft) → P k
pick true b c P k e file exec soft = subst P (same_some Kind.File k e) (file refl)
pick false true c P k e file exec soft = subst P (same_some Kind.Exec k e) (exec refl)
pick false false true P k e file exec soft = subst P (same_some Kind.Soft k e) (soft refl)
pick false false false P k e file exec soft = cc e

kind_ok : (value : Data) (k : Kind) → kind_read value ≡ Ok k → text_at value (codes "kind") ≡ Some (kind_name k)
kind_ok value k e =
    let a = found (text_at value (codes "kind")) kind_named k (present (option_and_then kind_named (text_at value (codes "kind"))) MetaField.Goods k e) in
    let t = a.0 in
    a.1
    ∙ ap Some (pick (is_text t (codes "file")) (is_text t (codes "exec")) (is_text t (codes "soft")) (λ k. t ≡ kind_name k) k a.2
    (λ is. (same_text t (codes "file")).0 is) (λ is. (same_text t (codes "exec")).0 is) (λ is. (same_text t (codes "soft")).0 is))

named_kind : (k : Kind) → kind_named (kind_name k) ≡ Some k
named_kind Kind.File = refl
named_kind Kind.Exec = refl
named_kind Kind.Soft = refl

kind_back : (value : Data) (k : Kind) → text_at value (codes "kind") ≡ Some (kind_name k) → kind_read value ≡ Ok k
kind_back value k is =
    ap (λ o. ok_or (option_and_then kind_named o) MetaField.Goods) is ∙ ap (λ o. ok_or o MetaField.Goods) (named_kind k)

path_ok : Laws → (field : MetaField) (text p : List ℕ) → good_path field text ≡ Ok p → (text ≡ p) × IsGoodPath p
path_ok law field text p e =
    let out = denied (is_meta text) field (or_fault (path_read text) field) p e in
    let read = cleared (path_read text) field p out.1 in
    let is = kept (path_fault text) text p read in
    (is, subst IsGoodPath is ((law.path text).0 (no_fault (path_fault text) text p read), out.0))

path_back : Laws → (field : MetaField) (p : List ℕ) → IsGoodPath p → good_path field p ≡ Ok p
path_back law field p is =
    ap (λ (b : Bool). if b then Err field else or_fault (path_read p) field) is.1
    ∙ ap (λ fault. or_fault (unless fault p) field) ((law.path p).1 is.0)

digest_ok : (field : MetaField) (name : List ℕ) (value : Data) (d : Digest) → digest_read field name value ≡ Ok d
    → (digits : List ℕ) × (text_at value name ≡ Some digits) × (decode_sized digits 32 ≡ Ok d.bytes)
digest_ok field name value d e =
    let a = bound (ok_or (text_at value name) field) (λ text. or_fault (decode_sized text 32) field >>= (λ bytes. Ok (record { bytes = bytes }))) d e in
    let b = bound (or_fault (decode_sized a.0 32) field) (λ bytes. Ok (record { bytes = bytes })) d a.2 in
    let made : Digest = record { bytes = b.0 } in
    (a.0, present (text_at value name) field a.0 a.1, cleared (decode_sized a.0 32) field b.0 b.1 ∙ ap (λ (x : Digest). Ok x.bytes) (same made d b.2))

digest_back : (field : MetaField) (name : List ℕ) (value : Data) (d : Digest) (digits : List ℕ) → text_at value name ≡ Some digits → decode_sized digits 32 ≡ Ok d.bytes
    → digest_read field name value ≡ Ok d
digest_back field name value d digits is decoded =
    ap (λ o. ok_or o field >>= (λ text. or_fault (decode_sized text 32) field >>= (λ bytes. Ok (record { bytes = bytes })))) is
    ∙ ap (λ r. or_fault r field >>= (λ bytes. Ok (record { bytes = bytes }))) decoded

abbrev good_with : Kind → List ℕ → Digest → ℕ → Good
good_with kind path digest size = record { path = path; kind = kind; size = size; digest = digest }

pub good_ok : Laws → (value : Data) (good : Good) → good_read value ≡ Ok good → IsGood value good
good_ok law value good e =
    let a = four (kind_read value) (path_field_read value) (digest_read MetaField.Goods (codes "sha256") value) (ok_or (number_at value (codes "size")) MetaField.Goods) good_with good e in
    let p = bound (ok_or (text_at value (codes "path")) MetaField.Goods) (good_path MetaField.Goods) a.1 a.5 in
    let path = path_ok law MetaField.Goods p.0 a.1 p.2 in
    let digest = digest_ok MetaField.Goods (codes "sha256") value a.2 a.6 in
    subst (IsGood value) a.8
    (record {
      digits = digest.0;
      kind = kind_ok value a.0 a.4;
      path = present (text_at value (codes "path")) MetaField.Goods p.0 p.1 ∙ ap Some path.0;
      is_path = path.1;
      sha256 = digest.1;
      digest = digest.2;
      size = present (number_at value (codes "size")) MetaField.Goods a.3 a.7;
    })

pub good_back : Laws → (value : Data) (good : Good) → IsGood value good → good_read value ≡ Ok good
good_back law value good h =
    four_back (kind_read value) (path_field_read value) (digest_read MetaField.Goods (codes "sha256") value) (ok_or (number_at value (codes "size")) MetaField.Goods) good_with
    good.kind good.path good.digest good.size
    (kind_back value good.kind h.kind)
    (ap (λ o. ok_or o MetaField.Goods >>= good_path MetaField.Goods) h.path ∙ path_back law MetaField.Goods good.path h.is_path)
    (digest_back MetaField.Goods (codes "sha256") value good.digest h.digits h.sha256 h.digest)
    (ap (λ o. ok_or o MetaField.Goods) h.size)

goods_ok : Laws → (value : Data) (goods : List Good) → goods_read value ≡ Ok goods
    → (elements : Items) × (list_at value (codes "goods") ≡ Some elements) × Are IsGood elements goods × Ascending (paths_of goods)
goods_ok law value goods e =
    let a = bound (ok_or (list_at value (codes "goods")) MetaField.Goods) (λ elements. each_from 0 (λ at. good_read) elements >>= (λ goods. where_so (ascend (paths_of goods)) MetaField.Goods goods)) goods e in
    let b = bound (each_from 0 (λ at. good_read) a.0) (λ goods. where_so (ascend (paths_of goods)) MetaField.Goods goods) goods a.2 in
    let c = so (ascend (paths_of b.0)) MetaField.Goods b.0 goods b.2 in (
      a.0,
      present (list_at value (codes "goods")) MetaField.Goods a.0 a.1,
      subst (Are IsGood a.0) c.1 (each_ok good_read IsGood (good_ok law) 0 a.0 b.0 b.1),
      subst (λ g. Ascending (paths_of g)) c.1 (ascend_ok (paths_of b.0) c.0),
    )

goods_back : Laws → (value : Data) (goods : List Good) (elements : Items) → list_at value (codes "goods") ≡ Some elements → Are IsGood elements goods
    → Ascending (paths_of goods) → goods_read value ≡ Ok goods
goods_back law value goods elements is are up =
    ap (λ o. ok_or o MetaField.Goods >>= (λ elements. each_from 0 (λ at. good_read) elements >>= (λ goods. where_so (ascend (paths_of goods)) MetaField.Goods goods))) is
    ∙ ap (λ r. r >>= (λ goods. where_so (ascend (paths_of goods)) MetaField.Goods goods)) (each_back good_read IsGood (good_back law) 0 elements goods are)
    ∙ so_back (ascend (paths_of goods)) MetaField.Goods goods (ascend_back (paths_of goods) up)

-- ---- records

channel_ok : (value : Data) (channel : List ℕ) → channel_read value ≡ Ok channel → (text_at value (codes "channel") ≡ Some channel) × (is_channel channel ≡ true)
channel_ok value channel e =
    let a = bound (ok_or (text_at value (codes "channel")) MetaField.Channel) (λ text. where_so (is_channel text) MetaField.Channel text) channel e in
    let b = so (is_channel a.0) MetaField.Channel a.0 channel a.2 in
    (present (text_at value (codes "channel")) MetaField.Channel a.0 a.1 ∙ ap Some b.1, subst (λ c. is_channel c ≡ true) b.1 b.0)

channel_back : (value : Data) (channel : List ℕ) → text_at value (codes "channel") ≡ Some channel → is_channel channel ≡ true → channel_read value ≡ Ok channel
channel_back value channel is good =
    ap (λ o. ok_or o MetaField.Channel >>= (λ text. where_so (is_channel text) MetaField.Channel text)) is
    ∙ so_back (is_channel channel) MetaField.Channel channel good

dist_ok : Laws → (field : MetaField) (text dist : List ℕ) → dist_read field text ≡ Ok dist → (text ≡ dist) × IsDist dist
dist_ok law field text dist e =
    let a = so (is_dist text) field text dist e in
    (a.1, subst IsDist a.1 ((law.dist text).0 a.0))

dist_back : Laws → (field : MetaField) (dist : List ℕ) → IsDist dist → dist_read field dist ≡ Ok dist
dist_back law field dist is = so_back (is_dist dist) field dist ((law.dist dist).1 is)

dist_at_ok : Laws → (field : MetaField) (name : List ℕ) (value : Data) (dist : List ℕ) → dist_at field name value ≡ Ok dist
    → (text_at value name ≡ Some dist) × IsDist dist
dist_at_ok law field name value dist e =
    let a = bound (ok_or (text_at value name) field) (dist_read field) dist e in
    let b = dist_ok law field a.0 dist a.2 in
    (present (text_at value name) field a.0 a.1 ∙ ap Some b.0, b.1)

dist_at_back : Laws → (field : MetaField) (name : List ℕ) (value : Data) (dist : List ℕ) → text_at value name ≡ Some dist → IsDist dist → dist_at field name value ≡ Ok dist
dist_at_back law field name value dist is good = ap (λ o. ok_or o field >>= dist_read field) is ∙ dist_back law field dist good

no_record : (r : Read PkgRecord RecordField) (pkg : PkgRecord) → subdir_at_fault r ≡ Ok pkg → ⊥
no_record (Ok x) pkg e = cc e
no_record (Err field) pkg e = cc e

record_in_ok : (value : Data) (dist channel : List ℕ) (place : Option (List ℕ)) (pkg : PkgRecord) → record_in value dist channel place ≡ Ok pkg
    → (subdir : List ℕ) × (place ≡ Some subdir) × (record_read value dist channel subdir ≡ Ok pkg)
record_in_ok value dist channel None pkg e = absurd (no_record (record_read value dist channel []) pkg e)
record_in_ok value dist channel (Some subdir) pkg e = (subdir, refl, e)

own : {A : Type 0} (r : Read A RecordField) (x : A) → in_record r ≡ Ok x → r ≡ Ok x
own (Ok y) x e = ap Ok (same y x e)
own (Err field) x e = cc e

tested : (a b : Bool) (text subdir : List ℕ) → (if a || b then Some text else None) ≡ Some subdir → ((a ≡ true) ⊎ (b ≡ true)) × (text ≡ subdir)
tested true b text subdir e = (inl refl, same_some text subdir e)
tested false true text subdir e = (inr refl, same_some text subdir e)
tested false false text subdir e = cc e

one_of : (text : List ℕ) → ((is_text text (codes "linux-64") ≡ true) ⊎ (is_text text (codes "noarch") ≡ true)) → IsSubdir text
one_of text (inl is) = inl ((same_text text (codes "linux-64")).0 is)
one_of text (inr is) = inr ((same_text text (codes "noarch")).0 is)

subdir_named : (text subdir : List ℕ) → if_subdir text ≡ Some subdir → IsSubdir subdir × (text ≡ subdir)
subdir_named text subdir e =
    let h = tested (is_text text (codes "linux-64")) (is_text text (codes "noarch")) text subdir e in
    (subst IsSubdir h.1 (one_of text h.0), h.1)

subdir_back : (subdir : List ℕ) → IsSubdir subdir → if_subdir subdir ≡ Some subdir
subdir_back subdir (inl e) = subst (λ s. if_subdir s ≡ Some s) (sym e) refl
subdir_back subdir (inr e) = subst (λ s. if_subdir s ≡ Some s) (sym e) refl

none_is : {A : Type 0} (o : Option A) → is_some o ≡ false → o ≡ None
none_is None e = refl
none_is (Some x) e = cc e

nothing : (dist : List ℕ) → None ≡ Some dist → ⊥
nothing dist e = cc e

-- a dist is the name of no package file, so it names itself alone
names_itself : Laws → (text dist : List ℕ) → IsDist text → NamesDist text dist → text ≡ dist
names_itself law text dist is (inl e) = e
names_itself law text dist is (inr file) =
    absurd (nothing dist (sym (none_is (cut_ending text) is.no_file) ∙ (law.ending text dist).1 file))

record_at_ok : Laws → (field : MetaField) (name : List ℕ) (value : Data) (pkg : PkgRecord) → record_at field name value ≡ Ok pkg → IsRecordAt name value pkg
record_at_ok law field name value pkg e =
    let a = bound (channel_read value) (λ channel. dist_at field name value >>= (λ dist. in_record (record_in value dist channel (subdir_at value)))) pkg e in
    let b = bound (dist_at field name value) (λ dist. in_record (record_in value dist a.0 (subdir_at value))) pkg a.2 in
    let c = record_in_ok value b.0 a.0 (subdir_at value) pkg (own (record_in value b.0 a.0 (subdir_at value)) pkg b.2) in
    let channel = channel_ok value a.0 a.1 in
    let dist = dist_at_ok law field name value b.0 b.1 in
    let s = found (text_at value (codes "subdir")) if_subdir c.0 c.1 in
    let subdir = subdir_named s.0 c.0 s.2 in
    let is = (law.record_is value b.0 a.0 c.0 pkg).0 c.2 in
    let dist_is = names_itself law b.0 pkg.dist dist.1 is.file_is in
    let at_dist : IsRecord value pkg.dist a.0 c.0 pkg = subst (λ d. IsRecord value d a.0 c.0 pkg) dist_is is in
    let at_channel : IsRecord value pkg.dist pkg.channel c.0 pkg = subst (λ x. IsRecord value pkg.dist x c.0 pkg) (sym is.in_channel) at_dist in
    record {
      channel = channel.0 ∙ ap Some (sym is.in_channel);
      is_channel = ap is_channel is.in_channel ∙ channel.1;
      dist = dist.0 ∙ ap Some dist_is;
      subdir = s.1 ∙ ap Some (subdir.1 ∙ sym is.in_subdir);
      is_subdir = subst IsSubdir (sym is.in_subdir) subdir.0;
      fields = subst (λ x. IsRecord value pkg.dist pkg.channel x pkg) (sym is.in_subdir) at_channel;
    }

record_at_back : Laws → (field : MetaField) (name : List ℕ) (value : Data) (pkg : PkgRecord) → IsRecordAt name value pkg → record_at field name value ≡ Ok pkg
record_at_back law field name value pkg h =
    ap (λ r. r >>= (λ channel. dist_at field name value >>= (λ dist. in_record (record_in value dist channel (subdir_at value))))) (channel_back value pkg.channel h.channel h.is_channel)
    ∙ ap (λ r. r >>= (λ dist. in_record (record_in value dist pkg.channel (subdir_at value)))) (dist_at_back law field name value pkg.dist h.dist h.fields.dist)
    ∙ ap (λ o. in_record (record_in value pkg.dist pkg.channel o)) (ap (option_and_then if_subdir) h.subdir ∙ subdir_back pkg.subdir h.is_subdir)
    ∙ ap in_record ((law.record_is value pkg.dist pkg.channel pkg.subdir pkg).1 h.fields)

-- ---- the packages of a revision

abbrev linked_with : PkgRecord → List Good → Linked
linked_with rec goods = record { rec = rec; goods = goods }

linked_ok : Laws → (value : Data) (linked : Linked) → linked_read value ≡ Ok linked → IsLinked value linked
linked_ok law value linked e =
    let a = bound (goods_read value) (λ goods. ok_or (inner_at value (codes "record")) MetaField.Record >>= (λ inner. record_at MetaField.Dist (codes "dist") inner >>= (λ rec. Ok (linked_with rec goods)))) linked e in
    let b = bound (ok_or (inner_at value (codes "record")) MetaField.Record) (λ inner. record_at MetaField.Dist (codes "dist") inner >>= (λ rec. Ok (linked_with rec a.0))) linked a.2 in
    let c = bound (record_at MetaField.Dist (codes "dist") b.0) (λ rec. Ok (linked_with rec a.0)) linked b.2 in
    let goods = goods_ok law value a.0 a.1 in
    subst (IsLinked value) (same (linked_with c.0 a.0) linked c.2)
    (record {
      elements = goods.0;
      inner = b.0;
      goods = goods.1;
      are_goods = goods.2;
      ascending = goods.3;
      rec = present (inner_at value (codes "record")) MetaField.Record b.0 b.1;
      is_record = record_at_ok law MetaField.Dist (codes "dist") b.0 c.0 c.1;
    })

linked_back : Laws → (value : Data) (linked : Linked) → IsLinked value linked → linked_read value ≡ Ok linked
linked_back law value linked h =
    ap (λ r. r >>= (λ goods. ok_or (inner_at value (codes "record")) MetaField.Record >>= (λ inner. record_at MetaField.Dist (codes "dist") inner >>= (λ rec. Ok (linked_with rec goods))))) (goods_back law value linked.goods h.elements h.goods h.are_goods h.ascending)
    ∙ ap (λ o. ok_or o MetaField.Record >>= (λ inner. record_at MetaField.Dist (codes "dist") inner >>= (λ rec. Ok (linked_with rec linked.goods)))) h.rec
    ∙ ap (λ r. r >>= (λ rec. Ok (linked_with rec linked.goods))) (record_at_back law MetaField.Dist (codes "dist") h.inner linked.rec h.is_record)

-- what has a list in a field is an object
has_fields : (value : Data) (name : List ℕ) (elements : Items) → list_at value name ≡ Some elements → is_some (as_object value) ≡ true
has_fields null name elements e = cc e
has_fields (boolean b) name elements e = cc e
has_fields (number n) name elements e = cc e
has_fields (string s) name elements e = cc e
has_fields (array xs) name elements e = cc e
has_fields (object ms) name elements e = refl

are_objects : (items : Items) (linked : List Linked) → Are IsLinked items linked → all_objects items ≡ true
are_objects no_items [] are = refl
are_objects no_items (one ∷ linked) are = absurd are
are_objects (item value rest) [] are = absurd are
are_objects (item value rest) (one ∷ linked) are =
    ap (λ b. b && all_objects rest) (has_fields value (codes "goods") are.0.elements are.0.goods) ∙ are_objects rest linked are.1

list_ok : Laws → (value : Data) (linked : List Linked) → linked_list value ≡ Ok linked
    → (elements : Items) × (list_at value (codes "linked") ≡ Some elements) × Are IsLinked elements linked × Ascending (dists_of linked)
list_ok law value linked e =
    let a = bound (ok_or (list_at value (codes "linked")) MetaField.Linked) (λ elements. where_so (all_objects elements) MetaField.Linked elements >>= (λ objects. each_from 0 (λ at. linked_read) objects >>= (λ linked. where_so (ascend (dists_of linked)) MetaField.Linked linked))) linked e in
    let b = bound (where_so (all_objects a.0) MetaField.Linked a.0) (λ objects. each_from 0 (λ at. linked_read) objects >>= (λ linked. where_so (ascend (dists_of linked)) MetaField.Linked linked)) linked a.2 in
    let c = bound (each_from 0 (λ at. linked_read) b.0) (λ linked. where_so (ascend (dists_of linked)) MetaField.Linked linked) linked b.2 in
    let d = so (ascend (dists_of c.0)) MetaField.Linked c.0 linked c.2 in (
      b.0,
      present (list_at value (codes "linked")) MetaField.Linked a.0 a.1 ∙ ap Some (so (all_objects a.0) MetaField.Linked a.0 b.0 b.1).1,
      subst (Are IsLinked b.0) d.1 (each_ok linked_read IsLinked (linked_ok law) 0 b.0 c.0 c.1),
      subst (λ l. Ascending (dists_of l)) d.1 (ascend_ok (dists_of c.0) d.0),
    )

list_back : Laws → (value : Data) (linked : List Linked) (elements : Items) → list_at value (codes "linked") ≡ Some elements → Are IsLinked elements linked
    → Ascending (dists_of linked) → linked_list value ≡ Ok linked
list_back law value linked elements is are up =
    ap (λ o. ok_or o MetaField.Linked >>= (λ elements. where_so (all_objects elements) MetaField.Linked elements >>= (λ objects. each_from 0 (λ at. linked_read) objects >>= (λ linked. where_so (ascend (dists_of linked)) MetaField.Linked linked)))) is
    ∙ ap (λ r. r >>= (λ objects. each_from 0 (λ at. linked_read) objects >>= (λ linked. where_so (ascend (dists_of linked)) MetaField.Linked linked))) (so_back (all_objects elements) MetaField.Linked elements (are_objects elements linked are))
    ∙ ap (λ r. r >>= (λ linked. where_so (ascend (dists_of linked)) MetaField.Linked linked)) (each_back linked_read IsLinked (linked_back law) 0 elements linked are)
    ∙ so_back (ascend (dists_of linked)) MetaField.Linked linked (ascend_back (dists_of linked) up)

-- ---- requested specifications

neither : (a b : Bool) → (a || b) ≡ false → (a ≡ false) × (b ≡ false)
neither true b e = cc e
neither false b e = (refl, e)

free : (c : ℕ) (text : List ℕ) → list_any (is_byte c) text ≡ false → IsFreeOf c text
free c [] e = tt
free c (b ∷ rest) e =
    let both = neither (is_byte c b) (list_any (is_byte c) rest) e in
    (both.0, free c rest both.1)

free_back : (c : ℕ) (text : List ℕ) → IsFreeOf c text → list_any (is_byte c) text ≡ false
free_back c [] is = refl
free_back c (b ∷ rest) is = ap (λ x. x || list_any (is_byte c) rest) is.0 ∙ free_back c rest is.1

not_so : (b : Bool) → not b ≡ true → b ≡ false
not_so true e = cc e
not_so false e = refl

spec_ok : Laws → (value : Data) (parts : Parts) → requested_spec value ≡ Ok parts → IsRequested value parts
spec_ok law value parts e =
    let a = bound (ok_or (as_str value) MetaField.Requested) (λ text. or_fault (spec_read (trimmed text)) MetaField.Requested >>= (λ parts. where_so (is_plain_form text parts) MetaField.Requested parts)) parts e in
    let b = bound (or_fault (spec_read (trimmed a.0)) MetaField.Requested) (λ parts. where_so (is_plain_form a.0 parts) MetaField.Requested parts) parts a.2 in
    let c = so (is_plain_form a.0 b.0) MetaField.Requested b.0 parts b.2 in
    let plain = both (not (list_any (is_byte star) b.0.name)) (is_text (spec_text b.0) a.0) c.0 in
    let form : spec_text b.0 ≡ a.0 = (same_text (spec_text b.0) a.0).0 plain.1 in
    let read : IsSpecText (trimmed a.0) b.0 = law.only (trimmed a.0) b.0 (cleared (spec_read (trimmed a.0)) MetaField.Requested b.0 b.1) in
    let made : IsRequested value b.0 = record {
      written = present (as_str value) MetaField.Requested a.0 a.1 ∙ ap Some (sym form);
      spec = subst (λ t. IsSpecText (trimmed t) b.0) (sym form) read;
      no_glob = free star b.0.name (not_so (list_any (is_byte star) b.0.name) plain.0);
    } in
    subst (IsRequested value) c.1 made

plain_back : (parts : Parts) → HasNoGlob parts → is_plain_form (spec_text parts) parts ≡ true
plain_back parts is =
    ap (λ b. not b && is_text (spec_text parts) (spec_text parts)) (free_back star parts.name is)
    ∙ (same_text (spec_text parts) (spec_text parts)).1 refl

spec_back : Laws → (value : Data) (parts : Parts) → IsRequested value parts → requested_spec value ≡ Ok parts
spec_back law value parts h =
    ap (λ o. ok_or o MetaField.Requested >>= (λ text. or_fault (spec_read (trimmed text)) MetaField.Requested >>= (λ parts. where_so (is_plain_form text parts) MetaField.Requested parts))) h.written
    ∙ ap (λ r. or_fault r MetaField.Requested >>= (λ read. where_so (is_plain_form (spec_text parts) read) MetaField.Requested read)) (law.all (trimmed (spec_text parts)) parts h.spec)
    ∙ so_back (is_plain_form (spec_text parts) parts) MetaField.Requested parts (plain_back parts h.no_glob)

requested_ok : Laws → (value : Data) (specs : List Parts) → requested_list value ≡ Ok specs
    → (elements : Items) × (list_at value (codes "requested") ≡ Some elements) × Are IsRequested elements specs × (in_order specs ≡ true)
requested_ok law value specs e =
    let a = bound (ok_or (list_at value (codes "requested")) MetaField.Requested) (λ elements. each_from 0 (λ at. requested_spec) elements >>= (λ specs. where_so (in_order specs) MetaField.Requested specs)) specs e in
    let b = bound (each_from 0 (λ at. requested_spec) a.0) (λ specs. where_so (in_order specs) MetaField.Requested specs) specs a.2 in
    let c = so (in_order b.0) MetaField.Requested b.0 specs b.2 in (
      a.0,
      present (list_at value (codes "requested")) MetaField.Requested a.0 a.1,
      subst (Are IsRequested a.0) c.1 (each_ok requested_spec IsRequested (spec_ok law) 0 a.0 b.0 b.1),
      subst (λ s. in_order s ≡ true) c.1 c.0,
    )

requested_back : Laws → (value : Data) (specs : List Parts) (elements : Items) → list_at value (codes "requested") ≡ Some elements → Are IsRequested elements specs
    → in_order specs ≡ true → requested_list value ≡ Ok specs
requested_back law value specs elements is are up =
    ap (λ o. ok_or o MetaField.Requested >>= (λ elements. each_from 0 (λ at. requested_spec) elements >>= (λ specs. where_so (in_order specs) MetaField.Requested specs))) is
    ∙ ap (λ r. r >>= (λ specs. where_so (in_order specs) MetaField.Requested specs)) (each_back requested_spec IsRequested (spec_back law) 0 elements specs are)
    ∙ so_back (in_order specs) MetaField.Requested specs up

-- ---- unlinked dists

unlinked_ok : Laws → (value : Data) (dist : List ℕ) → unlinked_dist value ≡ Ok dist → IsUnlinked value dist
unlinked_ok law value dist e =
    let a = bound (ok_or (as_str value) MetaField.Unlinked) (dist_read MetaField.Unlinked) dist e in
    let b = dist_ok law MetaField.Unlinked a.0 dist a.2 in
    (present (as_str value) MetaField.Unlinked a.0 a.1 ∙ ap Some b.0, b.1)

unlinked_back : Laws → (value : Data) (dist : List ℕ) → IsUnlinked value dist → unlinked_dist value ≡ Ok dist
unlinked_back law value dist is = ap (λ o. ok_or o MetaField.Unlinked >>= dist_read MetaField.Unlinked) is.0 ∙ dist_back law MetaField.Unlinked dist is.1

dists_ok : Laws → (value : Data) (dists : List (List ℕ)) → unlinked_list value ≡ Ok dists
    → (elements : Items) × (list_at value (codes "unlinked") ≡ Some elements) × Are IsUnlinked elements dists
dists_ok law value dists e =
    let a = bound (ok_or (list_at value (codes "unlinked")) MetaField.Unlinked) (each_from 0 (λ at. unlinked_dist)) dists e in
    (a.0, present (list_at value (codes "unlinked")) MetaField.Unlinked a.0 a.1, each_ok unlinked_dist IsUnlinked (unlinked_ok law) 0 a.0 dists a.2)

dists_back : Laws → (value : Data) (dists : List (List ℕ)) (elements : Items) → list_at value (codes "unlinked") ≡ Some elements → Are IsUnlinked elements dists
    → unlinked_list value ≡ Ok dists
dists_back law value dists elements is are =
    ap (λ o. ok_or o MetaField.Unlinked >>= each_from 0 (λ at. unlinked_dist)) is
    ∙ each_back unlinked_dist IsUnlinked (unlinked_back law) 0 elements dists are

-- ---- the revision

abbrev revision_with : List Linked → List Parts → List (List ℕ) → Revision
revision_with linked requested unlinked = record { linked = linked; unlinked = unlinked; requested = requested }

revision_ok : Laws → (value : Data) (revision : Revision) → revision_of value ≡ Ok revision → IsRevision value revision
revision_ok law value revision e =
    let a = bound (linked_list value) (λ linked. requested_list value >>= (λ requested. unlinked_list value >>= (λ unlinked. Ok (revision_with linked requested unlinked)))) revision e in
    let b = bound (requested_list value) (λ requested. unlinked_list value >>= (λ unlinked. Ok (revision_with a.0 requested unlinked))) revision a.2 in
    let c = bound (unlinked_list value) (λ unlinked. Ok (revision_with a.0 b.0 unlinked)) revision b.2 in
    let linked = list_ok law value a.0 a.1 in
    let requested = requested_ok law value b.0 b.1 in
    let unlinked = dists_ok law value c.0 c.1 in
    subst (IsRevision value) (same (revision_with a.0 b.0 c.0) revision c.2)
    (record {
      packages = linked.0;
      specs = requested.0;
      dists = unlinked.0;
      linked = linked.1;
      are_linked = linked.2;
      ascending = linked.3;
      requested = requested.1;
      are_requested = requested.2;
      in_order = requested.3;
      unlinked = unlinked.1;
      are_unlinked = unlinked.2;
    })

revision_back : Laws → (value : Data) (revision : Revision) → IsRevision value revision → revision_of value ≡ Ok revision
revision_back law value revision h =
    ap (λ r. r >>= (λ linked. requested_list value >>= (λ requested. unlinked_list value >>= (λ unlinked. Ok (revision_with linked requested unlinked))))) (list_back law value revision.linked h.packages h.linked h.are_linked h.ascending)
    ∙ ap (λ r. r >>= (λ requested. unlinked_list value >>= (λ unlinked. Ok (revision_with revision.linked requested unlinked)))) (requested_back law value revision.requested h.specs h.requested h.are_requested h.in_order)
    ∙ ap (λ r. r >>= (λ unlinked. Ok (revision_with revision.linked revision.requested unlinked))) (dists_back law value revision.unlinked h.dists h.unlinked h.are_unlinked)

pub revision_law : Laws → (value : Data) (revision : Revision) → (revision_of value ≡ Ok revision) ↔ IsRevision value revision
revision_law law value revision = (revision_ok law value revision, revision_back law value revision)

-- ---- what a revision's file gives is good

outside : (items : Items) (goods : List Good) → Are IsGood items goods → AllByRecursion (λ good. is_meta good.path ≡ false) goods
outside no_items [] are = tt
outside no_items (good ∷ goods) are = absurd are
outside (item value rest) [] are = absurd are
outside (item value rest) (good ∷ goods) are = (are.0.is_path.1, outside rest goods are.1)

packages : Laws → (items : Items) (linked : List Linked) → Are IsLinked items linked → AllByRecursion IsPackage linked
packages law no_items [] are = tt
packages law no_items (one ∷ linked) are = absurd are
packages law (item value rest) [] are = absurd are
packages law (item value rest) (one ∷ linked) are =
    let h = are.0 in (
      record {
        rec = law.well_formed h.inner one.rec.dist one.rec.channel one.rec.subdir one.rec h.is_record.fields;
        channel = h.is_record.is_channel;
        subdir = h.is_record.is_subdir;
        outside = outside h.elements one.goods h.are_goods;
      },
      packages law rest linked are.1,
    )

no_globs : (items : Items) (specs : List Parts) → Are IsRequested items specs → AllByRecursion HasNoGlob specs
no_globs no_items [] are = tt
no_globs no_items (parts ∷ specs) are = absurd are
no_globs (item value rest) [] are = absurd are
no_globs (item value rest) (parts ∷ specs) are = (are.0.no_glob, no_globs rest specs are.1)

pub good_revision : Laws → (value : Data) (revision : Revision) → IsRevision value revision → IsGoodRevision revision
good_revision law value revision h = record {
  packages = packages law h.packages revision.linked h.are_linked;
  ascending = h.ascending;
  no_globs = no_globs h.specs revision.requested h.are_requested;
  in_order = h.in_order;
}

-- ---- a package in a prefix

file_ok : Laws → (value : Data) (path : List ℕ) → file_read value ≡ Ok path → (as_str value ≡ Some path) × IsGoodPath path
file_ok law value path e =
    let a = bound (ok_or (as_str value) MetaField.Files) (good_path MetaField.Files) path e in
    let b = path_ok law MetaField.Files a.0 path a.2 in
    (present (as_str value) MetaField.Files a.0 a.1 ∙ ap Some b.0, b.1)

abbrev IsFilePath : Data → List ℕ → Type 0
IsFilePath value path = (as_str value ≡ Some path) × IsGoodPath path

file_back : Laws → (value : Data) (path : List ℕ) → IsFilePath value path → file_read value ≡ Ok path
file_back law value path is = ap (λ o. ok_or o MetaField.Files >>= good_path MetaField.Files) is.0 ∙ path_back law MetaField.Files path is.1

of_goods : (items : Items) (goods : List Good) → Are IsFilePath items (paths_of goods) → Are IsFile items goods
of_goods no_items [] are = tt
of_goods no_items (good ∷ goods) are = absurd are
of_goods (item value rest) [] are = absurd are
of_goods (item value rest) (good ∷ goods) are = (are.0, of_goods rest goods are.1)

of_paths : (items : Items) (goods : List Good) → Are IsFile items goods → Are IsFilePath items (paths_of goods)
of_paths no_items [] are = tt
of_paths no_items (good ∷ goods) are = absurd are
of_paths (item value rest) [] are = absurd are
of_paths (item value rest) (good ∷ goods) are = (are.0, of_paths rest goods are.1)

files_ok : Laws → (value : Data) (files : List (List ℕ)) → files_read value ≡ Ok files
    → (elements : Items) × (list_at value (codes "files") ≡ Some elements) × Are IsFilePath elements files × Ascending files
files_ok law value files e =
    let a = bound (ok_or (list_at value (codes "files")) MetaField.Files) (λ elements. each_from 0 (λ at. file_read) elements >>= (λ files. where_so (ascend files) MetaField.Files files)) files e in
    let b = bound (each_from 0 (λ at. file_read) a.0) (λ files. where_so (ascend files) MetaField.Files files) files a.2 in
    let c = so (ascend b.0) MetaField.Files b.0 files b.2 in (
      a.0,
      present (list_at value (codes "files")) MetaField.Files a.0 a.1,
      subst (Are IsFilePath a.0) c.1 (each_ok file_read IsFilePath (file_ok law) 0 a.0 b.0 b.1),
      subst Ascending c.1 (ascend_ok b.0 c.0),
    )

files_back : Laws → (value : Data) (files : List (List ℕ)) (elements : Items) → list_at value (codes "files") ≡ Some elements → Are IsFilePath elements files
    → Ascending files → files_read value ≡ Ok files
files_back law value files elements is are up =
    ap (λ o. ok_or o MetaField.Files >>= (λ elements. each_from 0 (λ at. file_read) elements >>= (λ files. where_so (ascend files) MetaField.Files files))) is
    ∙ ap (λ r. r >>= (λ files. where_so (ascend files) MetaField.Files files)) (each_back file_read IsFilePath (file_back law) 0 elements files are)
    ∙ so_back (ascend files) MetaField.Files files (ascend_back files up)

pick_type : (a b : Bool) (P : Kind → Type 0) (k : Kind) → (if a then Some Kind.File else if b then Some Kind.Soft else None) ≡ Some k
    → (a ≡ true → P Kind.File) → (b ≡ true → P Kind.Soft) → P k
pick_type true b P k e file soft = subst P (same_some Kind.File k e) (file refl)
pick_type false true P k e file soft = subst P (same_some Kind.Soft k e) (soft refl)
pick_type false false P k e file soft = cc e

type_ok : (value : Data) (k : Kind) → type_read value ≡ Ok k → (text_at value (codes "path_type") ≡ Some (type_name k)) × (kept_kind k ≡ k)
type_ok value k e =
    let a = found (text_at value (codes "path_type")) type_named k (present (option_and_then type_named (text_at value (codes "path_type"))) MetaField.PathsData k e) in
    let t = a.0 in
    let is : (t ≡ type_name k) × (kept_kind k ≡ k) =
    pick_type (is_text t (codes "hardlink")) (is_text t (codes "softlink")) (λ k. (t ≡ type_name k) × (kept_kind k ≡ k)) k a.2
    (λ is. ((same_text t (codes "hardlink")).0 is, refl)) (λ is. ((same_text t (codes "softlink")).0 is, refl)) in
    (a.1 ∙ ap Some is.0, is.1)

named_type : (k : Kind) → kept_kind k ≡ k → type_named (type_name k) ≡ Some k
named_type Kind.File e = refl
named_type Kind.Exec e = cc e
named_type Kind.Soft e = refl

type_back : (value : Data) (k : Kind) → text_at value (codes "path_type") ≡ Some (type_name k) → kept_kind k ≡ k → type_read value ≡ Ok k
type_back value k is plain =
    ap (λ o. ok_or (option_and_then type_named o) MetaField.PathsData) is ∙ ap (λ o. ok_or o MetaField.PathsData) (named_type k plain)

names_ok : (o : Option (List ℕ)) (path : List ℕ) → option_map_or (λ text. is_text text path) o false ≡ true → o ≡ Some path
names_ok None path e = cc e
names_ok (Some text) path e = ap Some ((same_text text path).0 e)

abbrev placed_with : List ℕ → Kind → Digest → ℕ → Good
placed_with path kind digest size = record { path = path; kind = kind; size = size; digest = digest }

placed_ok : (path : List ℕ) (value : Data) (good : Good) → placed_read path value ≡ Ok good → IsPlaced value good × (good.path ≡ path)
placed_ok path value good e =
    let a = four (where_so (names_path path value) MetaField.PathsData path) (type_read value) (digest_read MetaField.PathsData (codes "sha256_in_prefix") value) (ok_or (number_at value (codes "size_in_bytes")) MetaField.PathsData) placed_with good e in
    let named = so (names_path path value) MetaField.PathsData path a.0 a.4 in
    let kind = type_ok value a.1 a.5 in
    let digest = digest_ok MetaField.PathsData (codes "sha256_in_prefix") value a.2 a.6 in
    let made : IsPlaced value (placed_with a.0 a.1 a.2 a.3) = record {
      digits = digest.0;
      path = names_ok (text_at value (codes "_path")) path named.0 ∙ ap Some named.1;
      path_type = kind.0;
      kind = kind.1;
      sha256 = digest.1;
      digest = digest.2;
      size = present (number_at value (codes "size_in_bytes")) MetaField.PathsData a.3 a.7;
    } in
    (subst (IsPlaced value) a.8 made, ap (λ (g : Good). g.path) (sym a.8) ∙ sym named.1)

placed_back : (value : Data) (good : Good) → IsPlaced value good → placed_read good.path value ≡ Ok good
placed_back value good h =
    four_back (where_so (names_path good.path value) MetaField.PathsData good.path) (type_read value) (digest_read MetaField.PathsData (codes "sha256_in_prefix") value) (ok_or (number_at value (codes "size_in_bytes")) MetaField.PathsData) placed_with
    good.path good.kind good.digest good.size
    (so_back (names_path good.path value) MetaField.PathsData good.path (ap (λ o. option_map_or (λ text. is_text text good.path) o false) h.path ∙ (same_text good.path good.path).1 refl))
    (type_back value good.kind h.path_type h.kind)
    (digest_back MetaField.PathsData (codes "sha256_in_prefix") value good.digest h.digits h.sha256 h.digest)
    (ap (λ o. ok_or o MetaField.PathsData) h.size)

all_placed_ok : (paths : List (List ℕ)) (items : Items) (goods : List Good) → placed_goods paths items ≡ Ok goods → Are IsPlaced items goods × (paths_of goods ≡ paths)
all_placed_ok [] no_items goods e =
    let none = same [] goods e in
    (subst (Are IsPlaced no_items) none tt, ap paths_of (sym none))
all_placed_ok [] (item value rest) goods e = cc e
all_placed_ok (path ∷ paths) no_items goods e = cc e
all_placed_ok (path ∷ paths) (item value rest) goods e =
    let a = bound (placed_read path value) (λ good. placed_goods paths rest >>= (λ goods. Ok (good ∷ goods))) goods e in
    let b = bound (placed_goods paths rest) (λ goods. Ok (a.0 ∷ goods)) goods a.2 in
    let made : a.0 ∷ b.0 ≡ goods = same (a.0 ∷ b.0) goods b.2 in
    let one = placed_ok path value a.0 a.1 in
    let more = all_placed_ok paths rest b.0 b.1 in
    (subst (Are IsPlaced (item value rest)) made (one.0, more.0), ap paths_of (sym made) ∙ ap (λ p. p ∷ paths_of b.0) one.1 ∙ ap (λ ps. path ∷ ps) more.1)

all_placed_back : (items : Items) (goods : List Good) → Are IsPlaced items goods → placed_goods (paths_of goods) items ≡ Ok goods
all_placed_back no_items [] are = refl
all_placed_back no_items (good ∷ goods) are = absurd are
all_placed_back (item value rest) [] are = absurd are
all_placed_back (item value rest) (good ∷ goods) are =
    ap (λ r. r >>= (λ good. placed_goods (paths_of goods) rest >>= (λ goods. Ok (good ∷ goods)))) (placed_back value good are.0)
    ∙ ap (λ r. r >>= (λ goods. Ok (good ∷ goods))) (all_placed_back rest goods are.1)

-- the goods of a package ascend, since its files do
pub placed_ascend : (value : Data) (files : List (List ℕ)) (goods : List Good) → files_read value ≡ Ok files → paths_data_read files value ≡ Ok goods → Ascending (paths_of goods)
placed_ascend value files goods e f =
    let a = bound (ok_or (list_at value (codes "files")) MetaField.Files) (λ elements. each_from 0 (λ at. file_read) elements >>= (λ files. where_so (ascend files) MetaField.Files files)) files e in
    let b = bound (each_from 0 (λ at. file_read) a.0) (λ files. where_so (ascend files) MetaField.Files files) files a.2 in
    let c = so (ascend b.0) MetaField.Files b.0 files b.2 in
    let d = bound (ok_or (inner_at value (codes "paths_data")) MetaField.PathsData) (λ inner. placed_elements inner >>= (λ elements. placed_goods files elements)) goods f in
    let g = bound (placed_elements d.0) (λ elements. placed_goods files elements) goods d.2 in
    let placed = all_placed_ok files g.0 goods g.2 in
    subst Ascending (sym placed.1) (subst Ascending c.1 (ascend_ok b.0 c.0))

version_ok : (o : Option ℕ) → option_map_or (λ n. n == 1) o false ≡ true → o ≡ Some 1
version_ok None e = cc e
version_ok (Some n) e = ap Some (eqb-true n 1 e)

abbrev package_with : PkgRecord → List Good → Linked
package_with rec goods = record { rec = rec; goods = goods }

prefix_ok : Laws → (value : Data) (linked : Linked) → prefix_of value ≡ Ok linked → IsPrefixRecord value linked
prefix_ok law value linked e =
    let a = bound (record_at (MetaField.InRecord RecordField.Fn) (codes "fn") value) (λ rec. files_read value >>= (λ files. paths_data_read files value >>= (λ goods. Ok (package_with rec goods)))) linked e in
    let b = bound (files_read value) (λ files. paths_data_read files value >>= (λ goods. Ok (package_with a.0 goods))) linked a.2 in
    let c = bound (paths_data_read b.0 value) (λ goods. Ok (package_with a.0 goods)) linked b.2 in
    let d = bound (ok_or (inner_at value (codes "paths_data")) MetaField.PathsData) (λ inner. placed_elements inner >>= (λ elements. placed_goods b.0 elements)) c.0 c.1 in
    let f = bound (placed_elements d.0) (λ elements. placed_goods b.0 elements) c.0 d.2 in
    let g = guarded (is_version_one d.0) (ok_or (list_at d.0 (codes "paths")) MetaField.PathsData) MetaField.PathsData f.0 f.1 in
    let files = files_ok law value b.0 b.1 in
    let placed = all_placed_ok b.0 f.0 c.0 f.2 in
    let are : Are IsFilePath files.0 (paths_of c.0) = subst (Are IsFilePath files.0) (sym placed.1) files.2 in
    subst (IsPrefixRecord value) (same (package_with a.0 c.0) linked c.2)
    (record {
      files = files.0;
      inner = d.0;
      elements = f.0;
      is_record = record_at_ok law (MetaField.InRecord RecordField.Fn) (codes "fn") value a.0 a.1;
      listed = files.1;
      are_files = of_goods files.0 c.0 are;
      ascending = subst Ascending (sym placed.1) files.3;
      paths_data = present (inner_at value (codes "paths_data")) MetaField.PathsData d.0 d.1;
      version = version_ok (number_at d.0 (codes "paths_version")) g.0;
      paths = present (list_at d.0 (codes "paths")) MetaField.PathsData f.0 g.1;
      are_placed = placed.0;
    })

prefix_back : Laws → (value : Data) (linked : Linked) → IsPrefixRecord value linked → prefix_of value ≡ Ok linked
prefix_back law value linked h =
    ap (λ r. r >>= (λ rec. files_read value >>= (λ files. paths_data_read files value >>= (λ goods. Ok (package_with rec goods))))) (record_at_back law (MetaField.InRecord RecordField.Fn) (codes "fn") value linked.rec h.is_record)
    ∙ ap (λ r. r >>= (λ files. paths_data_read files value >>= (λ goods. Ok (package_with linked.rec goods)))) (files_back law value (paths_of linked.goods) h.files h.listed (of_paths h.files linked.goods h.are_files) h.ascending)
    ∙ ap (λ r. r >>= (λ goods. Ok (package_with linked.rec goods))) placed
  where
    elements_are : placed_elements h.inner ≡ Ok h.elements
    elements_are =
        ap (λ o. if option_map_or (λ n. n == 1) o false then ok_or (list_at h.inner (codes "paths")) MetaField.PathsData else Err MetaField.PathsData) h.version
        ∙ ap (λ o. ok_or o MetaField.PathsData) h.paths

    placed : paths_data_read (paths_of linked.goods) value ≡ Ok linked.goods
    placed =
        ap (λ o. ok_or o MetaField.PathsData >>= (λ inner. placed_elements inner >>= (λ elements. placed_goods (paths_of linked.goods) elements))) h.paths_data
        ∙ ap (λ r. r >>= (λ elements. placed_goods (paths_of linked.goods) elements)) elements_are
        ∙ all_placed_back h.elements linked.goods h.are_placed

pub prefix_law : Laws → (value : Data) (linked : Linked) → (prefix_of value ≡ Ok linked) ↔ IsPrefixRecord value linked
prefix_law law value linked = (prefix_ok law value linked, prefix_back law value linked)
