pub mod WeakRoundsParts
