pub mod WholeModes
