pub mod TwoPlaces
