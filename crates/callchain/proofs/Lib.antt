mod Granules
