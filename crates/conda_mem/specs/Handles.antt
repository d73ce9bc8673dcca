-- What a handle on the cache in memory tells of itself. This project's own.
use Rattle.std.specs.Prelude.{ℕ, Option, Some}
use Rattle.conda_device.specs.Stores.{StoreState}
use Rattle.conda_mem.specs.declared.mem_store.MemStore.{MemStore}

abbrev pub store_told : {R : Type 0} → MemStore R → Option StoreState
store_told store = Some (record { touched = store.touched.items; got = store.got })

abbrev pub store_faults : {R : Type 0} → MemStore R → ℕ
store_faults store = store.meter.faults.count
