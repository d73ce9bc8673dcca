-- No entry of a record that is read names packages by a star.
use Rattle.std.proofs.Common.{◌≡◌, ◌↔◌, ℕ, Bool, true, false, cond, List, [], ◌∷◌, ◌++◌, get_or, refl, subst}
use Rattle.std.specs.Prelude.{All, Ok, Err, is_some, Option, None, Some}
use Rattle.std.proofs.lemmas.List.Elements.{Contains-get_or}
use Rattle.serde_json.specs.Data.{Data}
use Rattle.conda_base.specs.Reads.{Read, ◌>>=◌}
use Rattle.conda_json.specs.Json.{object_read}
use Rattle.conda_path.specs.Files.{cut_ending}
use Rattle.conda_record.specs.Records.{record_read}
use Rattle.conda_record.specs.Rules.{IsRecord, IsWellFormed}
use Rattle.conda_record.specs.declared.error.RecordField.{RecordField}
use Rattle.conda_record.specs.declared.pkg_record.PkgRecord.{PkgRecord}
use Rattle.conda_repodata.specs.Entries.{dated, entry_read}
use Rattle.conda_repodata.specs.Reading.{repodata_read}
use Rattle.conda_repodata.specs.Rules.{IsRepodata, IsTaken}
use Rattle.conda_repodata.specs.declared.repodata.Repodata.{Repodata}
use Rattle.conda_index.specs.Pools.{NamesPlainly}

-- the laws of records, of repodata and of an index
pub record Laws : Type 0 where
  pub bytes : (bytes channel subdir : List ℕ) (repodata : Repodata) → (repodata_read bytes channel subdir ≡ Ok repodata)
      ↔ ((text : Data) × (object_read bytes ≡ Ok text) × IsRepodata text channel subdir repodata)
  pub read : (value : Data) (file channel subdir : List ℕ) (pkg : PkgRecord) → (record_read value file channel subdir ≡ Ok pkg)
      ↔ IsRecord value file channel subdir pkg
  pub well_formed : (value : Data) (file channel subdir : List ℕ) (pkg : PkgRecord) → IsRecord value file channel subdir pkg → IsWellFormed pkg
  pub plain : (pkg : PkgRecord) → IsWellFormed pkg → NamesPlainly pkg

ok_same : {A B : Type 0} (x y : A) → (let r : Read A B = Ok x in r) ≡ Ok y → x ≡ y
ok_same x y h = cc

module _ (laws : Laws) where
  entry_plain : (channel subdir file : List ℕ) (value : Data) (pkg : PkgRecord) → entry_read channel subdir file value ≡ Ok pkg
      → NamesPlainly pkg
  entry_plain channel subdir file value pkg h = by (is_some (cut_ending file)) h
    where
      of_read : (read : Read PkgRecord RecordField) → record_read value file channel subdir ≡ read
          → read >>= (λ found. Ok (dated found)) ≡ Ok pkg → NamesPlainly pkg
      of_read (Ok found) e k =
          subst NamesPlainly (ok_same {B = RecordField} (dated found) pkg k)
          (laws.plain found (laws.well_formed value file channel subdir found ((laws.read value file channel subdir found).0 e)))
      of_read (Err field) e k = cc k

      by : (b : Bool) → cond b (record_read value file channel subdir >>= (λ found. Ok (dated found))) (Err RecordField.Fn) ≡ Ok pkg
          → NamesPlainly pkg
      by true k = of_read (record_read value file channel subdir) refl k
      by false k = cc k

  taken_plain : (text : Data) (channel subdir : List ℕ) (pkg : PkgRecord) → IsTaken text channel subdir pkg → NamesPlainly pkg
  taken_plain text channel subdir pkg t = entry_plain channel subdir t.entry.file t.entry.value pkg t.reads

  pub text_plain : (bytes channel subdir : List ℕ) (part : Repodata) → repodata_read bytes channel subdir ≡ Ok part
      → All NamesPlainly part.recs
  text_plain bytes channel subdir part h =
      let meant = (laws.bytes bytes channel subdir part).0 h in
      λ k d lt. taken_plain meant.0 channel subdir (get_or part.recs k d)
      ((meant.2.taken (get_or part.recs k d)).0 (Contains-get_or part.recs k d lt))
