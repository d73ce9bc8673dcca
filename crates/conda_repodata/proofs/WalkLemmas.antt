-- What is read of a list of entries, one by one and in two parts.
use Rattle.std.proofs.Common.{◌≡◌, ℕ, List, [], ◌∷◌, ◌++◌, Ok, Err, sym, ap, ◌∙◌, refl, take, drop, append-nil, append_assoc}
use Rattle.std.specs.Prelude.{IfOk, Result, flat_map}
use Rattle.std.specs.declared.alloc.AllocError.{AllocError}
use Rattle.std.proofs.lemmas.Grind.{flat_map-append}
use Rattle.std.proofs.lemmas.List.{take-append-drop}
use Rattle.serde_json.specs.View.{view}
use Rattle.conda_base.specs.Reads.{Read}
use Rattle.conda_record.specs.declared.error.RecordField.{RecordField}
use Rattle.conda_record.specs.declared.pkg_record.PkgRecord.{PkgRecord}
use Rattle.conda_repodata.specs.Entries.{entry_read}
use Rattle.conda_repodata.specs.Reading.{if_read, if_unread}
use Rattle.conda_repodata.specs.declared.aside.Section.{Section}
use Rattle.conda_repodata.specs.declared.aside.Unread.{Unread}
use Rattle.conda_repodata.specs.declared.walk.Found.{Found}
use Rattle.conda_repodata.specs.Parts.{AreRead, Entry, IsJoined, record_in, unread_in}

-- a list behind another one, whose first part comes to this one
pub one_more : {A : Type 0} (before found rest : List A) → (before ++ found) ++ rest ≡ before ++ (found ++ rest)
one_more before found rest = append_assoc before found rest

-- what is read of an entry, in front of others
read_behind : (read : Read PkgRecord RecordField) (rest : List PkgRecord) → if_read read [] ++ rest ≡ if_read read rest
read_behind (Ok pkg) rest = refl
read_behind (Err field) rest = refl

unread_behind : (section : Section) (file : List ℕ) (read : Read PkgRecord RecordField) (rest : List Unread)
    → if_unread section file read [] ++ rest ≡ if_unread section file read rest
unread_behind section file (Ok pkg) rest = refl
unread_behind section file (Err field) rest = refl

-- one entry more at the end of those before, and what is found in the rest of its object
pushed : {A : Type 0} (f : Entry → List A) (before : List Entry) (entry : Entry) (rest : List A)
    → flat_map f (before ++ entry ∷ []) ++ rest ≡ flat_map f before ++ (f entry ++ rest)
pushed f before entry rest =
    ap (λ made. made ++ rest) (flat_map-append f before (entry ∷ []) ∙ ap (λ one. flat_map f before ++ one) (append-nil (f entry)))
    ∙ append_assoc (flat_map f before) (f entry) rest

pub pushed_record : (channel subdir : List ℕ) (before : List Entry) (entry : Entry) (rest : List PkgRecord)
    → flat_map (record_in channel subdir) (before ++ entry ∷ []) ++ rest
    ≡ flat_map (record_in channel subdir) before ++ if_read (entry_read channel subdir entry.1.now (view entry.2.now)) rest
pushed_record channel subdir before entry rest =
    pushed (record_in channel subdir) before entry rest
    ∙ ap (λ more. flat_map (record_in channel subdir) before ++ more) (read_behind (entry_read channel subdir entry.1.now (view entry.2.now)) rest)

pub pushed_unread : (channel subdir : List ℕ) (before : List Entry) (entry : Entry) (rest : List Unread)
    → flat_map (unread_in channel subdir) (before ++ entry ∷ []) ++ rest
    ≡ flat_map (unread_in channel subdir) before ++ if_unread entry.0 entry.1.now (entry_read channel subdir entry.1.now (view entry.2.now)) rest
pushed_unread channel subdir before entry rest =
    pushed (unread_in channel subdir) before entry rest
    ∙ ap (λ more. flat_map (unread_in channel subdir) before ++ more)
    (unread_behind entry.0 entry.1.now (entry_read channel subdir entry.1.now (view entry.2.now)) rest)

-- what is found in the halves is what is found in the whole
joined_reads : {A : Type 0} (f : Entry → List A) (mid : ℕ) (entries front back : List Entry) (first second made : List A)
    → front ≡ take mid entries → back ≡ drop mid entries → first ≡ flat_map f front → second ≡ flat_map f back
    → made ≡ first ++ second → made ≡ flat_map f entries
joined_reads f mid entries front back first second made is_front is_back is_first is_second is_made =
    is_made ∙ ap (λ l. l ++ second) (is_first ∙ ap (flat_map f) is_front)
    ∙ ap (λ l. flat_map f (take mid entries) ++ l) (is_second ∙ ap (flat_map f) is_back)
    ∙ sym (flat_map-append f (take mid entries) (drop mid entries)) ∙ ap (flat_map f) (take-append-drop mid entries)

pub halves : (channel subdir : List ℕ) (mid : ℕ) (entries front back : List Entry) (first second : Found) (made : Result Found AllocError)
    → front ≡ take mid entries → back ≡ drop mid entries → AreRead channel subdir front first → AreRead channel subdir back second
    → IfOk made (IsJoined first second) → IfOk made (AreRead channel subdir entries)
halves channel subdir mid entries front back first second (Ok made) is_front is_back one two joined = record {
  records = joined_reads (record_in channel subdir) mid entries front back first.records.items second.records.items made.records.items
      is_front is_back one.records two.records joined.records;
  unread = joined_reads (unread_in channel subdir) mid entries front back first.unread.items second.unread.items made.unread.items
      is_front is_back one.unread two.unread joined.unread;
}
halves channel subdir mid entries front back first second (Err e) is_front is_back one two joined = tt
